-- Laws that crates above cite: queues whose depths are in their range can hold items.
use Rattle.std.proofs.Common.{arith}
use Rattle.dae_base.specs.declared.Depths.{Depths}
use Rattle.dae_base.specs.declared.Queue.TheVariants.{Ld, Al, Sa, Sd, Ab, Eb, Cq}
use Rattle.dae_core.specs.Held.{CanHold}
use Rattle.dae_cli_options.specs.Options.{AreDepths}
use Rattle.dae_cli_options.specs.Ranges.{IsFromTo}
pub use Rattle.dae_cli_options.proofs.Spelled.{no_number, one_number, other_number}

-- each queue can hold an item
pub can_hold : {d : Depths} → AreDepths d → CanHold d
can_hold h = record {
  ld = let d : IsFromTo 1 4096 _ = h Ld in omega (arith, d.least_is);
  al = let d : IsFromTo 1 4096 _ = h Al in omega (arith, d.least_is);
  sa = let d : IsFromTo 1 4096 _ = h Sa in omega (arith, d.least_is);
  sd = let d : IsFromTo 1 4096 _ = h Sd in omega (arith, d.least_is);
  ab = let d : IsFromTo 1 4096 _ = h Ab in omega (arith, d.least_is);
  eb = let d : IsFromTo 1 4096 _ = h Eb in omega (arith, d.least_is);
  cq = let d : IsFromTo 1 4096 _ = h Cq in omega (arith, d.least_is);
}
