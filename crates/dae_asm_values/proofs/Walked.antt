-- The words of a code, row by row.
use Rattle.std.proofs.Common.{◌≡◌, ℕ, suc, ◌+◌, ◌*◌, ◌<◌, List, ◌∷◌, ◌++◌, length, drop, get_or, Option, Some, None, inr, refl, sym, ap, ◌∙◌, subst, append_assoc, drop-cons, add-one, arith, []}
use Rattle.std.proofs.lemmas.List.{append-nil}
use Rattle.dae_asm_lines.specs.Items as items
use Rattle.dae_asm_order.specs.Sheets.{Row}
use Rattle.dae_asm_sheet.specs.declared.rows.Row as code
use Rattle.dae_asm_sheet.specs.Rows.{row_seen, rows_seen}
use Rattle.dae_asm_labels.specs.Labels.{Look, words}
use Rattle.dae_asm_values.specs.Values.{AreFormed}
use Rattle.dae_asm_values.specs.Claims.{Claim, claim_at, claims_then, code_claims, AreMet, IsFirstUnmet, SaysNothing, SaysWord}

-- the rows from one on
pub rows_from : (rows : List code.Row) (i : ℕ) (d : code.Row) → i < length rows → rows_seen (drop i rows) ≡ row_seen (get_or rows i d) ∷ rows_seen (drop (i + 1) rows)
rows_from rows i d within = let here : drop i rows ≡ get_or rows i d ∷ drop (i + 1) rows = rw (add-one, drop-cons rows i d) in ap rows_seen here

formed_rest : (row : Row) (rows : List Row) → AreFormed (row ∷ rows) → AreFormed rows
formed_rest (n, items.Instruction i o) rows h = h.1
formed_rest row rows h = h

-- a code of which the words of some rows stand
pub record Walk (labels : Look) (all rest : List Row) (here : ℕ) (code : List ℕ) : Type 0 where
  pub met : (ws : List ℕ) → AreMet (code_claims labels here rest) ws → AreMet (code_claims labels 0 all) (code ++ ws)
  pub unmet : (n : ℕ) → IsFirstUnmet (code_claims labels here rest) n → IsFirstUnmet (code_claims labels 0 all) n
  pub many : here + 4 * words rest ≡ 4 * words all
  pub formed : AreFormed rest

claims_are : (labels : Look) (here : ℕ) (row : Row) (rows : List Row) (o : Option Claim) → claim_at labels here row ≡ o → code_claims labels here (row ∷ rows) ≡ claims_then row.0 o (code_claims labels here rows) (code_claims labels (here + 4) rows)
claims_are labels here row rows o e = ap (λ (c : Option Claim). claims_then row.0 c (code_claims labels here rows) (code_claims labels (here + 4) rows)) e

pub passed : (labels : Look) (all : List Row) (row : Row) (rows : List Row) (here : ℕ) (code : List ℕ) → Walk labels all (row ∷ rows) here code → SaysNothing labels here row → Walk labels all rows here code
passed labels all row rows here code w s =
    let e = claims_are labels here row rows None s.claim in
    let few = s.few rows in
    let many = w.many in
    record {
      met = λ ws h. w.met ws (subst (λ (cs : List (ℕ × Claim)). AreMet cs ws) (sym e) h);
      unmet = λ n h. w.unmet n (subst (λ (cs : List (ℕ × Claim)). IsFirstUnmet cs n) (sym e) h);
      many = ap (λ (k : ℕ). here + 4 * k) (sym few) ∙ many;
      formed = formed_rest row rows w.formed;
    }

four_more : (h n m all : ℕ) → h + 4 * n ≡ 4 * all → n ≡ suc m → (h + 4) + 4 * m ≡ 4 * all
four_more h n m all e f = omega arith

pub stepped : (labels : Look) (all : List Row) (row : Row) (rows : List Row) (here : ℕ) (code : List ℕ) (word : ℕ) → Walk labels all (row ∷ rows) here code → SaysWord labels here row word → Walk labels all rows (here + 4) (code ++ (word ∷ []))
stepped labels all row rows here code word w s =
    let e = claims_are labels here row rows (Some s.its) s.claim in
    record {
      met = λ ws h. subst (λ (vs : List ℕ). AreMet (code_claims labels 0 all) vs) (sym (append_assoc code (word ∷ []) ws))
          (w.met (word ∷ ws) (subst (λ (cs : List (ℕ × Claim)). AreMet cs (word ∷ ws)) (sym e) (word, (ws, (refl, s.meets, h)))));
      unmet = λ n h. w.unmet n (subst (λ (cs : List (ℕ × Claim)). IsFirstUnmet cs n) (sym e) (inr ((word, s.meets), h)));
      many = four_more here (words (row ∷ rows)) (words rows) (words all) w.many (s.one rows);
      formed = formed_rest row rows w.formed;
    }

pub whole : (labels : Look) (all : List Row) (here : ℕ) (code : List ℕ) → Walk labels all [] here code → AreMet (code_claims labels 0 all) code
whole labels all here code w = subst (λ (vs : List ℕ). AreMet (code_claims labels 0 all) vs) (append-nil code) (w.met [] refl)
