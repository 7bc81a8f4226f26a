-- The codes of functions that make no call, which are the same wherever functions stand.
use Rattle.std.specs.Prelude.{◌≡◌, ℕ, List, length, Option, Some, None, slice_get}
use Rattle.dae_ir.specs.Streams.{Actions}
use Rattle.dae_ir.specs.declared.stream.StreamFunction.{StreamFunction}
use Rattle.dae_select_walks.specs.Agrees.{Plan}
use Rattle.dae_select_blocks.specs.Code.{entry_code, function_code}
use Rattle.dae_select_blocks.specs.Sizes.{calls_in}
use Rattle.dae_select.specs.Grown.{StandWithin}
use Rattle.dae_select.specs.Growing.{function_places}
use Rattle.dae_select.specs.declared.functions.FunctionCode.{FunctionCode}
use Rattle.dae_select_calls.specs.Layouts.{plan_of, variables_of}
use Rattle.dae_select_calls.specs.declared.layouts.Layouts.{Layouts}
use Rattle.dae_link.specs.Sides.{body_in}

-- this is the code of the function, which makes no call
pub record HasLeafCode (plan : Plan) (variables : ℕ → ℕ) (f : ℕ) (actions : Actions) (made : FunctionCode) : Type 0 where
  pub calls : calls_in actions ≡ 0
  pub code : made.code.items ≡ function_code plan variables f actions
  pub entry : made.entry ≡ length (entry_code plan f)
  pub places : made.places.items ≡ function_places plan variables f actions
  pub within : StandWithin (length made.code.items) made.places.items

-- if there is one
abbrev pub IsLeafCode : Plan → (ℕ → ℕ) → ℕ → Actions → Option FunctionCode → Type 0
IsLeafCode plan variables f actions None = Unit {0}
IsLeafCode plan variables f actions (Some made) = HasLeafCode plan variables f actions made

abbrev pub leaf_code_at : Option (Option FunctionCode) → Option FunctionCode
leaf_code_at None = None
leaf_code_at (Some kept) = kept

-- each code stands at the number of its function
abbrev pub AreLeafCodes : Layouts → List StreamFunction → List (Option FunctionCode) → Type 0
AreLeafCodes all functions codes =
    (f : ℕ) → IsLeafCode (plan_of all) (variables_of all) f (body_in (slice_get functions f)) (leaf_code_at (slice_get codes f))
