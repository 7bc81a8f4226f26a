-- A stream sets what it needs before it reads it, where its form does.
use Rattle.std.specs.Prelude.{ℕ, Bool, ◌&&◌}
use Rattle.dae_ir.specs.Form.{Program}
use Rattle.dae_ir.specs.Classes.{VariableSet, Classes, AreClosed}
use Rattle.dae_ir.specs.Streams.{set_of, stream_of}
use Rattle.dae_ir.specs.SetFirst.{IsSetFirst, form_flow, stream_flow}

-- from what was set and the side needs
abbrev pub StreamsSetFirst : Type 0
StreamsSetFirst =
    (p : Program) (of : ℕ → Classes) → AreClosed p of → (by_a : Bool) (cap f : ℕ) (d : VariableSet) → IsSetFirst form_flow d (p.body f)
    → IsSetFirst stream_flow (λ v. d v && set_of by_a (of f) v) (stream_of by_a of (of f) cap (p.body f))
