-- The claims that the checker's calls take, as lists.
use Rattle.btx_ends.specs.declared.claims.Claims.{Claims as Given}
use Rattle.btx_ends.specs.Certificates.{Claims}

abbrev pub claims_of : Given → Claims
claims_of given = record {
  costs = given.costs.now;
  types = given.types;
  bounds = given.bounds.now;
  tests = given.tests.now;
  counts = given.counts.now;
  ends = given.ends.now;
  shortens = given.shortens.now;
  parts = given.parts.now;
  moves = given.moves.now;
  limits = given.limits.now;
  raises = given.raises.now;
  asks = given.asks.now;
  lowers = given.lowers.now;
  filled = given.filled.now;
  replaces = given.replaces.now;
  integers = given.integers;
  kept = given.kept;
}
