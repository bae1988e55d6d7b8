-- What contracts see of a sink in memory.
use Rattle.std.specs.Prelude.{ℕ, ◌-◌, ◌==◌, ◌&&◌, ◌||◌, Bool, not, List, ◌++◌, length, take, min}
use Rattle.np_io.specs.Calls.{is_listed, one_more}

pub record SinkState : Type 0 where
  pub bytes : List ℕ
  -- how many reserved bytes are free
  pub free : ℕ
  -- the most bytes that one call takes
  pub piece : ℕ
  -- the numbers of the calls that fail
  pub failing : List ℕ
  pub calls : ℕ
  pub faults : ℕ

-- whether the next write fails, if it is of this piece
abbrev pub will_fail : SinkState → List ℕ → Bool
will_fail sink piece = is_listed sink.calls sink.failing || (sink.free == 0 && not (length piece == 0))

-- how many bytes of the piece the next write takes, if it does not fail
abbrev pub room_for : SinkState → List ℕ → ℕ
room_for sink piece = min (min sink.piece (length piece)) sink.free

abbrev pub after_writing : SinkState → List ℕ → SinkState
after_writing sink piece = record sink {
  bytes = sink.bytes ++ take (room_for sink piece) piece;
  free = sink.free - room_for sink piece;
  calls = one_more sink.calls;
}

abbrev pub after_fault : SinkState → SinkState
after_fault sink = record sink { calls = one_more sink.calls; faults = one_more sink.faults }
