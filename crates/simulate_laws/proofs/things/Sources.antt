-- Main's process in a sound program is one of a source.
use Rattle.std.proofs.Common.{[]}
use Rattle.simulate_laws.specs.things.ValueLaws.{SoundIsSource}
use Rattle.simulate_laws.specs.things.Sources.{Names}

pub sound-is-source : SoundIsSource
sound-is-source p s = record {
  scope = [];
  node = 1;
  after = s.after;
  bound = s.bound;
  sound = s.main;
  in_scope = tt;
  below = s.below;
  once = s.once;
  named = Names.as_main;
}
