-- Graphs without links.
use Rattle.std.proofs.Common.{◌≡◌, ℕ, zero, suc, ◌+◌, ◌<◌, Bool, false, nat_lt, List, [], ◌∷◌, ◌++◌, length, take, get_or, refl, ◌∙◌, arith}
use Rattle.std.specs.Prelude.{slice_get, Option, is_some, Vec}
use Rattle.std.specs.List.{AllByRecursion, AllZip}
use Rattle.std.specs.declared.alloc.Global.{Global}
use Rattle.std.proofs.lemmas.Bool.Decides.{nat_tests}
use Rattle.std.proofs.lemmas.List.{take_more}
use Rattle.dae_ir.specs.declared.form.Function.{Function}
use Rattle.dae_slice.specs.Graphs.{vertex_in, is_needed, sources, variables_of, IsNew, IsNewRow, IsFresh}
use Rattle.dae_slice.specs.declared.graph.Vertex.{Vertex}
use Rattle.dae_slice.specs.declared.graph.Graph.{Graph}

-- a vertex that may be there, without links and mark
record IsBlank (b : Bool) (x : Option Vertex) : Type 0 where
  there : is_some x ≡ b
  needed : is_needed x ≡ false
  sources : sources x ≡ []

blank : (xs : List Vertex) (v : ℕ) → AllByRecursion IsNew xs → IsBlank (nat_lt v (length xs)) (slice_get xs v)
blank [] v h = record { there = grind (arith, nat_tests); needed = refl; sources = refl }
blank (x ∷ xs) zero h = record { there = grind (arith, nat_tests); needed = h.0.needed; sources = h.0.sources }
blank (x ∷ xs) (suc v) h =
    let b = blank xs v h.1 in
    record { there = b.there ∙ same v (length xs); needed = b.needed; sources = b.sources }
  where
    same : (a b : ℕ) → nat_lt a b ≡ nat_lt (suc a) (suc b)
    same a b = grind (arith, nat_tests)

-- a row for each function
abbrev pub AreNewRows : List Function → List (Vec Vertex Global) → Type 0
AreNewRows = AllZip (λ function row. IsNewRow function.variables row.items)

blanks : (functions : List Function) (rows : List (Vec Vertex Global)) (f v : ℕ) → AreNewRows functions rows → IsBlank (nat_lt v (variables_of (slice_get functions f))) (vertex_in (slice_get rows f) v)
blanks [] [] f v h = record { there = grind (arith, nat_tests); needed = refl; sources = refl }
blanks [] (r ∷ rs) f v h = absurd h
blanks (g ∷ gs) [] f v h = absurd h
blanks (g ∷ gs) (r ∷ rs) zero v h = rw (← h.0.length) (blank r.items v h.0.new)
blanks (g ∷ gs) (r ∷ rs) (suc f) v h = blanks gs rs f v h.1

pub fresh : (functions : List Function) (g : Graph) → AreNewRows functions g.rows.items → g.work.items ≡ [] → IsFresh functions g
fresh functions g rows none = record {
  exists = λ f v. (blanks functions g.rows.items f v rows).there;
  marked = λ f v. (blanks functions g.rows.items f v rows).needed;
  keeps = λ c. record {
    vertices = λ f v. let b = blanks functions g.rows.items f v rows in record { needed = λ m. cc; sources = λ m. rw b.sources tt };
    work = rw none tt;
  };
}

zip_push : {A B : Type 0} (R : A → B → Type 0) (xs : List A) (ys : List B) (x : A) (y : B) → AllZip R xs ys → R x y → AllZip R (xs ++ x ∷ []) (ys ++ y ∷ [])
zip_push R [] [] x y h k = (k, tt)
zip_push R [] (b ∷ bs) x y h k = absurd h
zip_push R (a ∷ as') [] x y h k = absurd h
zip_push R (a ∷ as') (b ∷ bs) x y h k = (h.0, zip_push R as' bs x y h.1 k)

pub rows_more : (functions : List Function) (i : ℕ) (function : Function) (rows new : List (Vec Vertex Global)) (row : Vec Vertex Global) → i < length functions → function ≡ get_or functions i function → AreNewRows (take i functions) rows → IsNewRow function.variables row.items → new ≡ rows ++ row ∷ [] → AreNewRows (take (i + 1) functions) new
rows_more functions i function rows new row lt is h k e =
    rw (e, take_more functions i function lt, ← is) (zip_push _ (take i functions) rows function row h k)
