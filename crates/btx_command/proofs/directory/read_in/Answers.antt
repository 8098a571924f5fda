use Rattle.std.proofs.Common.{◌∙◌}
use Rattle.btx_command.proofs.FolderLemmas.{no_text, read_whole}
use Rattle.btx_command.proofs.directory.read_in.Goals as goal

-- the name isn't UTF-8
pub returns-in_default-clause-found : goal.returns-in_default-clause-found
returns-in_default-clause-found g c empty =
    no_text (g.S.System.content c.args.system.now) c.args.directory.now c.args.name.now c.in_default.ensures.cases.0

-- the file at the name's path was opened, and read
pub returns-clause-found : goal.returns-clause-found
returns-clause-found g c empty =
    let text = c.in-Ok.ensures.cases in
    read_whole (g.S.System.content c.args.system.now) c.args.directory.now c.args.name.now c.in-Ok.name.now c.as_str.result.now
    (g.S.File.Read.remaining c.in-Ok-open.file) c.args.into.now.items c.read_front.new.into.items
    text.0 text.1 (c.as_str.ensures.value ∙ c.in-Ok-path_in.ensures) c.in-Ok-open.ensures.opened c.in_ok-read_front.ensures.bytes empty
