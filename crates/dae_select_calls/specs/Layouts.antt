-- The plan that layouts are.
use Rattle.std.specs.Prelude.{ℕ, ◌<◌, ◌^◌, Bool, false, not, ◌&&◌, ◌||◌, List, [], ◌∷◌, length, slice_get, Option, Some, None}
use Rattle.dae_select_walks.specs.declared.Home.{Home}
use Rattle.dae_select_walks.specs.Homes.{frame_words, home_among}
use Rattle.dae_select_walks.specs.Agrees.{Plan}
use Rattle.dae_select_blocks.specs.Blocks.{is_register}
use Rattle.dae_select_values.specs.Jumps.{is_jalr}
use Rattle.dae_select_values.specs.Sides.{is_a}
use Rattle.dae_select_values.specs.Tables.{IsNear}
use Rattle.dae_select_calls.specs.declared.layouts.FunctionLayout.{FunctionLayout}
use Rattle.dae_select_calls.specs.declared.layouts.Layouts.{Layouts}

abbrev pub homes_at : Option FunctionLayout → List Home
homes_at None = []
homes_at (Some layout) = layout.homes

abbrev pub variables_at : Option FunctionLayout → ℕ
variables_at None = 0
variables_at (Some layout) = layout.variables

abbrev pub entry_at : Option FunctionLayout → ℕ
entry_at None = 0
entry_at (Some layout) = layout.entry

abbrev pub start_at : Option FunctionLayout → ℕ
start_at None = 0
start_at (Some layout) = layout.start

abbrev pub frame_at : Option FunctionLayout → ℕ
frame_at None = 0
frame_at (Some layout) = layout.frame

abbrev pub leaf_at : Option FunctionLayout → Bool
leaf_at None = false
leaf_at (Some layout) = layout.leaf

abbrev pub frameless_at : Option FunctionLayout → Bool
frameless_at None = false
frameless_at (Some layout) = layout.frameless

-- one of these homes is this register
abbrev pub has_home : ℕ → List Home → Bool
has_home r [] = false
has_home r (home ∷ homes) = is_register r home || has_home r homes

-- a leaf leaves the registers as they are in which none of its variables is
abbrev pub spares_at : Option FunctionLayout → ℕ → Bool
spares_at None r = false
spares_at (Some layout) r = layout.leaf && not (has_home r layout.homes)

abbrev pub variables_of : Layouts → ℕ → ℕ
variables_of all f = variables_at (slice_get all.functions f)

abbrev pub plan_of : Layouts → Plan
plan_of all = record {
  by_a = is_a all.side;
  functions = length all.functions;
  home = λ f. home_among (homes_at (slice_get all.functions f)) all.residents;
  entry = λ f. entry_at (slice_get all.functions f);
  start = λ f. start_at (slice_get all.functions f);
  words = λ f. frame_words (variables_at (slice_get all.functions f));
  frame = λ f. frame_at (slice_get all.functions f);
  leaf = λ f. leaf_at (slice_get all.functions f);
  frameless = λ f. frameless_at (slice_get all.functions f);
  spares = λ f. spares_at (slice_get all.functions f);
  near = is_jalr all.calls;
  finish = all.finish;
  largest = all.largest;
  private = all.private;
  limit = all.limit;
  memory = all.memory;
  residents = all.residents;
}

-- words of frames are near enough for their addresses to be words, and homes are registers or slots there
pub record AreSmall (all : Layouts) : Type 0 where
  pub homes : (f v : ℕ) → IsNear ((plan_of all).home f v)
  pub words : (f : ℕ) → (plan_of all).words f < 2 ^ 26
  pub entries : (f : ℕ) → (plan_of all).entry f < 2 ^ 30
