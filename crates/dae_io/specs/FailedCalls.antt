-- The fault that a failed call of a shelf leaves.
use Rattle.std.specs.Prelude.{Option}
use Rattle.dae_io.specs.Faults.{ShelfFault, fetch_of, keep_of}
use Rattle.dae_io.specs.declared.faults.FailedCall.{FailedCall}
use Rattle.dae_io.specs.declared.faults.FailedCall.TheVariants as failed

abbrev pub fault_of : FailedCall → Option ShelfFault
fault_of (failed.Fetch name) = fetch_of name.now
fault_of (failed.Keep name) = keep_of name.now
