use Rattle.std.proofs.Common.{rules}
use Rattle.btx_check.proofs.PlainLemmas.{row_of}
use Rattle.btx_check.proofs.PlainRows as rule
use Rattle.btx_check.proofs.plain_rules.plain_of.Goals as goal

pub returns-in-AddPeriod : goal.returns-in-AddPeriod
returns-in-AddPeriod c = row_of _ _ _ _ c.in-AddPeriod.is (search rules) rule.add_period

pub returns-in-ChangeCase : goal.returns-in-ChangeCase
returns-in-ChangeCase c = row_of _ _ _ _ c.in-ChangeCase.is (search rules) rule.change_case

pub returns-in-ChrToInt : goal.returns-in-ChrToInt
returns-in-ChrToInt c = row_of _ _ _ _ c.in-ChrToInt.is (search rules) rule.chr_to_int

pub returns-in-Cite : goal.returns-in-Cite
returns-in-Cite c = row_of _ _ _ _ c.in-Cite.is (search rules) rule.cite

pub returns-in-FormatName : goal.returns-in-FormatName
returns-in-FormatName c = row_of _ _ _ _ c.in-FormatName.is (search rules) rule.format_name

pub returns-in-IntToChr : goal.returns-in-IntToChr
returns-in-IntToChr c = row_of _ _ _ _ c.in-IntToChr.is (search rules) rule.int_to_chr

pub returns-in-IntToStr : goal.returns-in-IntToStr
returns-in-IntToStr c = row_of _ _ _ _ c.in-IntToStr.is (search rules) rule.int_to_str

pub returns-in-NewLine : goal.returns-in-NewLine
returns-in-NewLine c = row_of _ _ _ _ c.in-NewLine.is (search rules) rule.newline

pub returns-in-Preamble : goal.returns-in-Preamble
returns-in-Preamble c = row_of _ _ _ _ c.in-Preamble.is (search rules) rule.preamble

pub returns-in-Purify : goal.returns-in-Purify
returns-in-Purify c = row_of _ _ _ _ c.in-Purify.is (search rules) rule.purify

pub returns-in-Quote : goal.returns-in-Quote
returns-in-Quote c = row_of _ _ _ _ c.in-Quote.is (search rules) rule.quote

pub returns-in-Substring : goal.returns-in-Substring
returns-in-Substring c = row_of _ _ _ _ c.in-Substring.is (search rules) rule.substring

pub returns-in-TextLength : goal.returns-in-TextLength
returns-in-TextLength c = row_of _ _ _ _ c.in-TextLength.is (search rules) rule.text_length

pub returns-in-TextPrefix : goal.returns-in-TextPrefix
returns-in-TextPrefix c = row_of _ _ _ _ c.in-TextPrefix.is (search rules) rule.text_prefix

pub returns-in-Top : goal.returns-in-Top
returns-in-Top c = row_of _ _ _ _ c.in-Top.is (search rules) rule.top

pub returns-in-Type : goal.returns-in-Type
returns-in-Type c = row_of _ _ _ _ c.in-Type.is (search rules) rule.type_name

pub returns-in-Warning : goal.returns-in-Warning
returns-in-Warning c = row_of _ _ _ _ c.in-Warning.is (search rules) rule.warning

pub returns-in-Width : goal.returns-in-Width
returns-in-Width c = row_of _ _ _ _ c.in-Width.is (search rules) rule.width
