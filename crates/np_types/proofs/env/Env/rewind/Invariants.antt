use Rattle.std.proofs.Common.{◌≡◌, length}
use Rattle.np_types.specs.Trails.{rewound, Held}
use Rattle.np_types.proofs.env.Env.rewind.Given as goal

abbrev pub invariant-loop-binder : goal.invariant-loop-binder
invariant-loop-binder l = record { held : Held l.left l.self; same : rewound l.left l.self ≡ rewound l.fn.trail l.initial.self }

abbrev pub decreases-loop-binder : goal.decreases-loop-binder
decreases-loop-binder l = length l.left
