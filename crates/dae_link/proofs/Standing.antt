-- Where the functions of a side stand.
use Rattle.std.proofs.Common.{◌≡◌, ℕ, zero, suc, ◌+◌, ◌≤◌, ◌<◌, List, [], ◌∷◌, ◌++◌, length, map, refl, ap, sym, ◌∙◌, subst, arith, append_assoc, length-append}
use Rattle.std.proofs.lemmas.List.{length-map, map-append}
use Rattle.std.specs.Prelude.{Option, Some, slice_get}
use Rattle.std.specs.List.{AllByRecursion}
use Rattle.dae_encode.specs.declared.Inst.{Inst}
use Rattle.dae_encode.specs.Spelling.{InRange, encoded}
use Rattle.dae_ir.specs.Streams.{Actions, actions_of}
use Rattle.dae_ir.specs.declared.stream.StreamFunction.{StreamFunction}
use Rattle.dae_select_walks.specs.Layout.{CodeAt}
use Rattle.dae_select_walks.specs.Agrees.{Plan}
use Rattle.dae_select_blocks.specs.Code.{entry_code, function_code}
use Rattle.dae_select_blocks.proofs.LawsOfBlocks.{words_are_code}
use Rattle.dae_select_calls.specs.Layouts.{entry_at, start_at}
use Rattle.dae_select_calls.specs.declared.layouts.FunctionLayout.{FunctionLayout}
use Rattle.dae_link.specs.Placed.{functions_code, placed}
use Rattle.dae_link.specs.Sides.{body_in}

-- ---- all but the places stays

module _ (p : Plan) (variables : ℕ → ℕ) where
  pub placed_long : (fs : List StreamFunction) (ls : List FunctionLayout) (word k : ℕ) → length ls ≡ length fs → length (placed p variables word k fs ls) ≡ length ls
  placed_long [] [] word k e = refl
  placed_long [] (l ∷ ls) word k e = absurd (omega arith)
  placed_long (f ∷ fs) [] word k e = absurd (omega arith)
  placed_long (f ∷ fs) (l ∷ ls) word k e = let rest = placed_long fs ls (word + length (function_code p variables k (actions_of f.body))) (k + 1) (omega arith) in omega arith

  -- whatever is asked of a layout that its place doesn't change
  pub placed_same : {T : Type 0} (what : Option FunctionLayout → T) → ((l : FunctionLayout) (entry start : ℕ) → what (Some (record { homes = l.homes; variables = l.variables; frame = l.frame; leaf = l.leaf; frameless = l.frameless; entry = entry; start = start })) ≡ what (Some l))
      → (fs : List StreamFunction) (ls : List FunctionLayout) (word k g : ℕ) → length ls ≡ length fs → what (slice_get (placed p variables word k fs ls) g) ≡ what (slice_get ls g)
  placed_same what same [] [] word k g e = refl
  placed_same what same [] (l ∷ ls) word k g e = absurd (omega arith)
  placed_same what same (f ∷ fs) [] word k g e = absurd (omega arith)
  placed_same what same (f ∷ fs) (l ∷ ls) word k zero e = same l _ _
  placed_same what same (f ∷ fs) (l ∷ ls) word k (suc g) e = placed_same what same fs ls (word + length (function_code p variables k (actions_of f.body))) (k + 1) g (omega arith)

  pub start_behind : (fs : List StreamFunction) (ls : List FunctionLayout) (word k g i : ℕ) → length ls ≡ length fs → g < length fs → k + g ≡ i
      → start_at (slice_get (placed p variables word k fs ls) g) ≡ entry_at (slice_get (placed p variables word k fs ls) g) + length (entry_code p i)
  start_behind [] ls word k g i e lt at = absurd (omega arith)
  start_behind (f ∷ fs) [] word k g i e lt at = absurd (omega arith)
  start_behind (f ∷ fs) (l ∷ ls) word k zero i e lt at =
      let same : k ≡ i = omega arith in ap (λ (n : ℕ). word + length (entry_code p n)) same
  start_behind (f ∷ fs) (l ∷ ls) word k (suc g) i e lt at =
      start_behind fs ls (word + length (function_code p variables k (actions_of f.body))) (k + 1) g i (omega arith) (omega arith) (omega arith)

  pub entries_within : (fs : List StreamFunction) (ls : List FunctionLayout) (word k g : ℕ) → entry_at (slice_get (placed p variables word k fs ls) g) ≤ word + length (functions_code p variables k fs)
  entries_within [] ls word k g = omega arith
  entries_within (f ∷ fs) [] word k g = omega arith
  entries_within (f ∷ fs) (l ∷ ls) word k zero = omega arith
  entries_within (f ∷ fs) (l ∷ ls) word k (suc g) =
      let rest = entries_within fs ls (word + length (function_code p variables k (actions_of f.body))) (k + 1) g in
      let whole = length-append (function_code p variables k (actions_of f.body)) (functions_code p variables (k + 1) fs) in
      omega arith

  -- ---- the code, by a plan that makes code as long

  module _ (q : Plan) (same : (f : ℕ) (code : Actions) → length (function_code q variables f code) ≡ length (function_code p variables f code)) where
    pub functions_long : (fs : List StreamFunction) (k : ℕ) → length (functions_code q variables k fs) ≡ length (functions_code p variables k fs)
    functions_long [] k = refl
    functions_long (f ∷ fs) k =
        let one = same k (actions_of f.body) in
        let rest = functions_long fs (k + 1) in
        let left = length-append (function_code q variables k (actions_of f.body)) (functions_code q variables (k + 1) fs) in
        let right = length-append (function_code p variables k (actions_of f.body)) (functions_code p variables (k + 1) fs) in
        omega arith

    -- each function's code is within the whole
    pub ends_within : (fs : List StreamFunction) (ls : List FunctionLayout) (word k g i : ℕ) → length ls ≡ length fs → g < length fs → k + g ≡ i
        → entry_at (slice_get (placed p variables word k fs ls) g) + length (function_code q variables i (body_in (slice_get fs g))) ≤ word + length (functions_code p variables k fs)
    ends_within [] ls word k g i e lt at = absurd (omega arith)
    ends_within (f ∷ fs) [] word k g i e lt at = absurd (omega arith)
    ends_within (f ∷ fs) (l ∷ ls) word k zero i e lt at =
        let same_index : k ≡ i = omega arith in
        let one = same k (actions_of f.body) in
        let whole = length-append (function_code p variables k (actions_of f.body)) (functions_code p variables (k + 1) fs) in
        let here : word + length (function_code q variables k (actions_of f.body)) ≤ word + length (functions_code p variables k (f ∷ fs)) = omega arith in
        subst (λ (n : ℕ). word + length (function_code q variables n (actions_of f.body)) ≤ word + length (functions_code p variables k (f ∷ fs))) same_index here
    ends_within (f ∷ fs) (l ∷ ls) word k (suc g) i e lt at =
        let rest = ends_within fs ls (word + length (function_code p variables k (actions_of f.body))) (k + 1) g i (omega arith) (omega arith) (omega arith) in
        let whole = length-append (function_code p variables k (actions_of f.body)) (functions_code p variables (k + 1) fs) in
        omega arith

    -- and stands where it is entered
    pub stands_there : ((f : ℕ) (code : Actions) → AllByRecursion InRange (function_code q variables f code)) → (fs : List StreamFunction) (ls : List FunctionLayout) (before' : List Inst) (word k g i : ℕ) → length ls ≡ length fs → length before' ≡ word → g < length fs → k + g ≡ i
        → CodeAt (map encoded (before' ++ functions_code q variables k fs)) (entry_at (slice_get (placed p variables word k fs ls) g)) (function_code q variables i (body_in (slice_get fs g)))
    stands_there fit [] ls before' word k g i e w lt at = absurd (omega arith)
    stands_there fit (f ∷ fs) [] before' word k g i e w lt at = absurd (omega arith)
    stands_there fit (f ∷ fs) (l ∷ ls) before' word k zero i e w lt at =
        let same_index : k ≡ i = omega arith in
        let is = function_code q variables k (actions_of f.body) in
        let more = functions_code q variables (k + 1) fs in
        let words : map encoded (before' ++ (is ++ more)) ≡ map encoded before' ++ (map encoded is ++ map encoded more) = map-append encoded before' (is ++ more) ∙ ap (λ (ws : List ℕ). map encoded before' ++ ws) (map-append encoded is more) in
        let there = words_are_code is (map encoded before') (map encoded more) (fit k (actions_of f.body)) in
        subst (λ (n : ℕ). CodeAt (map encoded (before' ++ (is ++ more))) word (function_code q variables n (actions_of f.body))) same_index
        (subst (λ (ws : List ℕ). CodeAt ws word is) (sym words) (subst (λ (n : ℕ). CodeAt (map encoded before' ++ (map encoded is ++ map encoded more)) n is) (length-map before' encoded ∙ w) there))
    stands_there fit (f ∷ fs) (l ∷ ls) before' word k (suc g) i e w lt at =
        let is = function_code q variables k (actions_of f.body) in
        let more = functions_code q variables (k + 1) fs in
        let behind = word + length (function_code p variables k (actions_of f.body)) in
        let long : length (before' ++ is) ≡ behind = (let one = same k (actions_of f.body) in let sum = length-append before' is in omega arith) in
        let here = entry_at (slice_get (placed p variables behind (k + 1) fs ls) g) in
        subst (λ (all : List Inst). CodeAt (map encoded all) here (function_code q variables i (body_in (slice_get fs g)))) (append_assoc before' is more)
        (stands_there fit fs ls (before' ++ is) behind (k + 1) g i (omega arith) long (omega arith) (omega arith))
