-- Codes that are kept at the numbers of their functions.
use Rattle.std.proofs.Common.{◌≡◌, ℕ, zero, suc, ◌+◌, List, [], ◌∷◌, ◌++◌, length, ap, sym, subst, ◌∙◌, length-append}
use Rattle.std.specs.Prelude.{Option, Some, None, slice_get}
use Rattle.dae_encode.specs.declared.Inst.{Inst}
use Rattle.dae_ir.specs.Streams.{Actions, actions_of}
use Rattle.dae_ir.specs.declared.stream.Step.{Step}
use Rattle.dae_ir.specs.declared.stream.StreamFunction.{StreamFunction}
use Rattle.dae_select_walks.specs.Agrees.{Plan}
use Rattle.dae_select.specs.Grown.{StandWithin}
use Rattle.dae_select.specs.declared.functions.FunctionCode.{FunctionCode}
use Rattle.dae_select.specs.declared.growing.PlacedWord.{PlacedWord}
use Rattle.dae_select_calls.specs.Layouts.{plan_of, variables_of}
use Rattle.dae_select_calls.specs.declared.layouts.Layouts.{Layouts}
use Rattle.dae_link.specs.LeafCodes.{HasLeafCode, IsLeafCode, AreLeafCodes, leaf_code_at}
use Rattle.dae_link.specs.Sides.{body_in}

-- the code that is kept is that of the function
pub kept_code : (plan : Plan) (variables : ℕ → ℕ) (f : ℕ) (actions : Actions) (kept : Option FunctionCode) (made : FunctionCode)
    → IsLeafCode plan variables f actions kept → kept ≡ Some made → HasLeafCode plan variables f actions made
kept_code plan variables f actions kept made has is = subst (λ (o : Option FunctionCode). IsLeafCode plan variables f actions o) is has

-- so are a copy's words within it
pub copy_within : (code code' : List Inst) (places places' : List PlacedWord) → code ≡ code' → places ≡ places' → StandWithin (length code') places' → StandWithin (length code) places
copy_within code code' places places' e h within =
    subst (λ (is : List Inst). StandWithin (length is) places) (sym e) (subst (λ (ps : List PlacedWord). StandWithin (length code') ps) (sym h) within)

-- ---- lists of them

-- with one more at the end
pushed : (Q : ℕ → Option FunctionCode → Type 0) (codes : List (Option FunctionCode)) (kept : Option FunctionCode)
    → ((n : ℕ) → Q n (leaf_code_at (slice_get codes n))) → Q (length codes) kept → ((n : ℕ) → Q n None) → (n : ℕ) → Q n (leaf_code_at (slice_get (codes ++ kept ∷ []) n))
pushed Q [] kept before last none zero = last
pushed Q [] kept before last none (suc n) = none (suc n)
pushed Q (c ∷ codes) kept before last none zero = before zero
pushed Q (c ∷ codes) kept before last none (suc n) = pushed (λ k. Q (suc k)) codes kept (λ k. before (suc k)) last (λ k. none (suc k)) n

pub one_longer : (codes new : List (Option FunctionCode)) (kept : Option FunctionCode) (i : ℕ) → length codes ≡ i → new ≡ codes ++ kept ∷ [] → length new ≡ i + 1
one_longer codes new kept i long made = ap length made ∙ length-append codes (kept ∷ []) ∙ ap (λ (n : ℕ). n + 1) long

module _ (all : Layouts) (fs : List StreamFunction) where
  abbrev IsAt : ℕ → Option FunctionCode → Type 0
  IsAt n kept = IsLeafCode (plan_of all) (variables_of all) n (body_in (slice_get fs n)) kept

  pub none_kept : (codes : List (Option FunctionCode)) → codes ≡ [] → AreLeafCodes all fs codes
  none_kept codes none n = subst (λ (cs : List (Option FunctionCode)). IsAt n (leaf_code_at (slice_get cs n))) (sym none) tt

  pub one_kept : (codes new : List (Option FunctionCode)) (i : ℕ) (kept : Option FunctionCode) (f : StreamFunction) (body : List Step) → length codes ≡ i → slice_get fs i ≡ Some f → body ≡ f.body
      → IsLeafCode (plan_of all) (variables_of all) i (actions_of body) kept → new ≡ codes ++ kept ∷ [] → AreLeafCodes all fs codes → AreLeafCodes all fs new
  one_kept codes new i kept f body long at same is made before n =
      let own : IsLeafCode (plan_of all) (variables_of all) i (actions_of f.body) kept = subst (λ (b : List Step). IsLeafCode (plan_of all) (variables_of all) i (actions_of b) kept) same is in
      let here : IsAt i kept = subst (λ (o : Option StreamFunction). IsLeafCode (plan_of all) (variables_of all) i (body_in o) kept) (sym at) own in
      let last : IsAt (length codes) kept = subst (λ (k : ℕ). IsAt k kept) (sym long) here in
      subst (λ (cs : List (Option FunctionCode)). IsAt n (leaf_code_at (slice_get cs n))) (sym made) (pushed IsAt codes kept before last (λ k. tt) n)

  -- the one of a function
  pub kept_there : (codes : List (Option FunctionCode)) (i : ℕ) (f : StreamFunction) (kept : Option FunctionCode) (body : List Step) → AreLeafCodes all fs codes → slice_get fs i ≡ Some f → slice_get codes i ≡ Some kept → body ≡ f.body
      → IsLeafCode (plan_of all) (variables_of all) i (actions_of body) kept
  kept_there codes i f kept body are at there same =
      subst (λ (o : Option (Option FunctionCode)). IsLeafCode (plan_of all) (variables_of all) i (actions_of body) (leaf_code_at o)) there
      (subst (λ (b : List Step). IsLeafCode (plan_of all) (variables_of all) i (actions_of b) (leaf_code_at (slice_get codes i))) (sym same)
      (subst (λ (o : Option StreamFunction). IsLeafCode (plan_of all) (variables_of all) i (body_in o) (leaf_code_at (slice_get codes i))) at (are i)))

-- the same functions and the same codes
pub kept_as : (all : Layouts) (fs gs : List StreamFunction) (codes same : List (Option FunctionCode)) → fs ≡ gs → same ≡ codes → AreLeafCodes all fs codes → AreLeafCodes all gs same
kept_as all fs gs codes same e h are =
    subst (λ (hs : List StreamFunction). AreLeafCodes all hs same) e (subst (λ (cs : List (Option FunctionCode)). AreLeafCodes all fs cs) (sym h) are)
