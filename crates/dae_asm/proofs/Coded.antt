-- The words of a code as bounds that are kept.
use Rattle.std.proofs.Common.{◌≡◌, ℕ, suc, ◌+◌, ◌<◌, ◌≤◌, ◌^◌, List, ◌∷◌, map, length, All, inl, inr, ap, ◌∙◌, subst, arith, []}
use Rattle.std.proofs.lemmas.List.Elements.{All-nil, All-cons}
use Rattle.dae_asm_lines.specs.Items as items
use Rattle.dae_asm_order.specs.Sheets.{Row}
use Rattle.dae_asm_labels.specs.Labels.{Look, words}
use Rattle.dae_asm_values.specs.declared.code.CodeFault.{CodeFault}
use Rattle.dae_asm_values.specs.declared.code.CodeFault.TheVariants as faults
use Rattle.dae_asm_values.specs.Claims.{Claim, code_claims, AreMet, IsFirstUnmet, IsCodeFault}
use Rattle.dae_asm_data.specs.Bounds.{Bound, HasCode, Code, IsKept, AreKept, IsFirstBroken}
use Rattle.dae_asm.specs.Assembly.{code_bounds}
use Rattle.dae_asm.specs.Making.{IsCode}

abbrev pub kept_on : ℕ × Bound → Type 0
kept_on b = IsKept b.1

abbrev as_bounds : List (ℕ × Claim) → List (ℕ × Bound)
as_bounds claims = map (λ c. (c.0, Code c.1)) claims

-- as many words as the rows make
count_met : (labels : Look) (here : ℕ) (rows : List Row) (ws : List ℕ) → AreMet (code_claims labels here rows) ws → length ws ≡ words rows
count_met labels here [] ws e = ap length e
count_met labels here ((n, items.Plain z) ∷ rows) ws h = ap length h.1.1.0 ∙ ap suc (count_met labels (here + 4) rows h.1.0 h.1.1.2)
count_met labels here ((n, items.Instruction i o) ∷ rows) ws h = ap length h.1.1.0 ∙ ap suc (count_met labels (here + 4) rows h.1.0 h.1.1.2)
count_met labels here (row ∷ rows) ws h = count_met labels here rows ws h

met_kept : (claims : List (ℕ × Claim)) (ws : List ℕ) → AreMet claims ws → AreKept (as_bounds claims)
met_kept [] ws h = All-nil kept_on
met_kept (c ∷ cs) ws h = All-cons kept_on (c.0, Code c.1) (as_bounds cs) (h.0, h.1.1.1) (met_kept cs h.1.0 h.1.1.2)

unmet_broken : (claims : List (ℕ × Claim)) (n : ℕ) → IsFirstUnmet claims n → IsFirstBroken (as_bounds claims) n
unmet_broken [] n h = absurd h
unmet_broken (c ∷ cs) n (inl h) = inl (h.0, λ k. h.1 k.0 k.1)
unmet_broken (c ∷ cs) n (inr h) = inr (h.0, unmet_broken cs n h.1)

pub code_made : (line : ℕ) (labels : Look) (rows : List Row) (ws : List ℕ) → 1 ≤ words rows → AreMet (code_claims labels 0 rows) ws → All (λ w. w < 2 ^ 32) ws → IsCode line labels rows ws
code_made line labels rows ws some met small =
    let count = count_met labels 0 rows ws met in
    record {
      met = met;
      kept = All-cons kept_on (line, HasCode (words rows)) (as_bounds (code_claims labels 0 rows)) some (met_kept (code_claims labels 0 rows) ws met);
      count = count;
      some = omega arith;
      small = small;
    }

pub code_broken : (line : ℕ) (labels : Look) (rows : List Row) (e : CodeFault) (n : ℕ) → e ≡ faults.Unmet n → 1 ≤ words rows → IsCodeFault labels rows e → IsFirstBroken (code_bounds line labels rows) n
code_broken line labels rows e n same some h =
    let first : IsFirstUnmet (code_claims labels 0 rows) n = subst (λ (f : CodeFault). IsCodeFault labels rows f) same h in
    inr (some, unmet_broken (code_claims labels 0 rows) n first)
