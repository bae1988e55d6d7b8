-- The low program of an accepted program has no fault where agents have caches.
use Rattle.std.proofs.Common.{◌≡◌, ◌<◌, ℕ, true, length, nat_lt, arith}
use Rattle.std.specs.FinMap as table
use Rattle.np_safety.specs.Low.{infrastructure}
use Rattle.np_safety.proofs.Starts.{accepted, below-is}
use Rattle.infrastructure_texts.specs.Pieces.{main}
use Rattle.daemon_encode.proofs.ProgramsTyped.{own_binders, at_first, clean-main}
use Rattle.cache_encode.specs.Typed.{CachedFaultless}
use Rattle.cache_encode.proofs.DaemonTyped.{good-cached_daemon}
use Rattle.cache_encode.proofs.ProcessesTyped.{cached-good}
use Rattle.cache_encode.proofs.TextsTyped.{good-main}

pub cached-faultless : CachedFaultless
cached-faultless p a =
    let n : ℕ = length p.sites in
    let site : p.at < n = a.sound.at in
    let within : nat_lt p.at n ≡ true = below-is p.at n site in
    let some : nat_lt 0 n ≡ true = below-is 0 n (omega (arith, site)) in
    let done = cached-good n some p.main table.empty (own_binders p) (main n) p.binders (at_first p some) (clean-main p a) (accepted p (infrastructure n) a) in
    record { main = good-main n some table.empty p.at _ _ _ _ within (λ e. omega (arith, e)) done.good; daemon = good-cached_daemon n table.empty p.at _ within }
