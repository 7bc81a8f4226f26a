-- Graphs that differ in one vertex.
use Rattle.std.proofs.Common.{zero, suc, length-append, ◌≡◌, ◌⊎◌, inl, inr, ℕ, ◌+◌, ◌<◌, ◌≢◌, true, List, [], ◌∷◌, ◌++◌, length, get_or, set, refl, ap, sym, arith}
use Rattle.std.specs.Prelude.{slice_get, Option, Some, None, is_some, Vec}
use Rattle.std.specs.Vec.{with_item}
use Rattle.std.specs.declared.alloc.Global.{Global}
use Rattle.std.proofs.lemmas.Bool.{cases_eq}
use Rattle.std.proofs.lemmas.Option.{slice_get_within}
use Rattle.dae_base.proofs.Laws.{all_join}
use Rattle.dae_slice.specs.Graphs.{Family, vertex_in, vertex, exists, is_needed, AreIn, VertexKept, Keeps, Adds, Settles, pending, links_of, links_of_row}
use Rattle.dae_slice.specs.SourceLists.{source_list}
use Rattle.dae_slice.specs.declared.graph.SliceNode.{SliceNode}
use Rattle.dae_slice.specs.declared.graph.Vertex.{Vertex}
use Rattle.dae_slice.specs.declared.graph.Graph.{Graph}
use Rattle.dae_slice.proofs.Lists.{get_set_here, get_set_other, get_read, all_front, all_back}

abbrev pub Rows : Type 0
Rows = List (Vec Vertex Global)

abbrev at : Rows → ℕ → ℕ → Option Vertex
at rows f v = vertex_in (slice_get rows f) v

pub read : (rows : Rows) (f v : ℕ) (row : Vec Vertex Global) (x : Vertex) → f < length rows → row ≡ get_or rows f row → v < length row.items → x ≡ get_or row.items v x → vertex_in (slice_get rows f) v ≡ Some x
read rows f v row x lt is inside this = rw (get_read rows f row lt is) (get_read row.items v x inside this)

pub written : (rows : Rows) (f v : ℕ) (row : Vec Vertex Global) (x : Vertex) → f < length rows → v < length row.items → vertex_in (slice_get (set rows f (with_item row v x)) f) v ≡ Some x
written rows f v row x lt inside = rw (get_set_here rows f (with_item row v x) lt) (get_set_here row.items v x inside)

-- all vertices but one are the same
abbrev pub AreSameBut : ℕ → ℕ → Rows → Rows → Type 0
AreSameBut f v old new = (h w : ℕ) → (at new h w ≡ at old h w) ⊎ ((h ≡ f) × (w ≡ v))

pub others_stay : (rows : Rows) (f v : ℕ) (row : Vec Vertex Global) (x : Vertex) → f < length rows → row ≡ get_or rows f row → AreSameBut f v rows (set rows f (with_item row v x))
others_stay rows f v row x lt is h w = by_function (cases_eq h f)
  where
    by_vertex : h ≡ f → (w ≡ v) ⊎ (w ≢ v) → (at (set rows f (with_item row v x)) h w ≡ at rows h w) ⊎ ((h ≡ f) × (w ≡ v))
    by_vertex e (inl same) = inr (e, same)
    by_vertex e (inr other) = inl (rw (e, get_set_here rows f (with_item row v x) lt, get_read rows f row lt is) (get_set_other row.items v w x other))

    by_function : (h ≡ f) ⊎ (h ≢ f) → (at (set rows f (with_item row v x)) h w ≡ at rows h w) ⊎ ((h ≡ f) × (w ≡ v))
    by_function (inl e) = by_vertex e (cases_eq w v)
    by_function (inr ne) = inl (rw (get_set_other rows f h (with_item row v x) ne) refl)

pub back_again : (f v : ℕ) (old new : Rows) → AreSameBut f v old new → AreSameBut f v new old
back_again f v old new but h w = elim (but h w) [ inl e ↦ inl (sym e) | inr p ↦ inr p ]

is_within : {X : Type 0} (xs : List X) (k : ℕ) (o : Option X) → slice_get xs k ≡ o → is_some o ≡ true → k < length xs
is_within xs k None e h = cc
is_within xs k (Some x) e h = slice_get_within xs k x e

pub row_there : (rows : Rows) (f v : ℕ) → is_some (at rows f v) ≡ true → f < length rows
row_there rows f v h = by_row (slice_get rows f) refl h
  where
    by_row : (o : Option (Vec Vertex Global)) → slice_get rows f ≡ o → is_some (vertex_in o v) ≡ true → f < length rows
    by_row None e k = cc
    by_row (Some row) e k = slice_get_within rows f row e

pub vertex_there : (rows : Rows) (f v : ℕ) (row : Vec Vertex Global) → row ≡ get_or rows f row → is_some (at rows f v) ≡ true → v < length row.items
vertex_there rows f v row is h =
    let lt = row_there rows f v h in
    let e = get_read rows f row lt is in
    is_within row.items v (slice_get row.items v) refl (rw e at h)

-- ---- what families keep of two such graphs

module _ (c : Family) (f v : ℕ) (old new : Graph) (y : Vertex) (but : AreSameBut f v old.rows.items new.rows.items) (is : vertex new f v ≡ Some y) where
  kept : ((h w : ℕ) → VertexKept c h w (vertex old h w)) → VertexKept c f v (Some y) → (h w : ℕ) → VertexKept c h w (vertex new h w)
  kept k here h w = elim (but h w) [ inl e ↦ rw e (k h w) | inr p ↦ rw (p.0, p.1, is) here ]

module _ (f v : ℕ) (old new : Graph) (x y : Vertex) (but : AreSameBut f v old.rows.items new.rows.items) (was : vertex old f v ≡ Some x) (is : vertex new f v ≡ Some y) where
  abbrev there : (h w : ℕ) → exists new h w ≡ exists old h w
  there h w = elim (but h w) [ inl e ↦ ap is_some e | inr p ↦ rw (p.0, p.1, is, was) refl ]

  pub linked : (from : SliceNode) → y.needed ≡ x.needed → source_list y.sources ≡ source_list x.sources ++ from ∷ [] → new.work.items ≡ old.work.items → Adds (λ c. c f v ≡ true → c from.function from.variable ≡ true) old new
  linked from n s w = record {
    like = record {
      exists = there;
      marked = λ h u. elim (but h u) [ inl e ↦ ap is_needed e | inr p ↦ rw (p.0, p.1, is, was) n ];
    };
    keeps = λ c. (one c, other c);
  }
    where
      one : (c : Family) → Keeps new c → Keeps old c × (c f v ≡ true → c from.function from.variable ≡ true)
      one c k =
          let here : VertexKept c f v (Some y) = rw is at (k.vertices f v) in (
            record {
              vertices = kept c f v new old x (back_again f v old.rows.items new.rows.items but) was k.vertices (record {
                needed = rw n at here.needed;
                sources = λ h. all_front _ (source_list x.sources) (from ∷ []) (rw s at (here.sources h));
              });
              work = rw w at k.work;
            },
            λ h. (all_back _ (source_list x.sources) (from ∷ []) (rw s at (here.sources h))).0,
          )

      other : (c : Family) → Keeps old c × (c f v ≡ true → c from.function from.variable ≡ true) → Keeps new c
      other c (k, p) =
          let here : VertexKept c f v (Some x) = rw was at (k.vertices f v) in
          record {
            vertices = kept c f v old new y but is k.vertices (record {
              needed = rw n here.needed;
              sources = λ h. rw s (all_join _ (source_list x.sources) (from ∷ []) (here.sources h) (p h, tt));
            });
            work = rw w k.work;
          }

  pub settled : (n : SliceNode) → n.function ≡ f → n.variable ≡ v → y.needed ≡ true → source_list y.sources ≡ [] → new.work.items ≡ old.work.items ++ source_list x.sources → pending new ≡ pending old → Settles n old new
  settled n nf nv need none w p = record {
    exists = there;
    keeps = λ c. rw (nf, nv) (one c, other c);
    settled = λ s h u m. elim (but h u) [ inl e ↦ rw e (s h u (rw e at m)) | inr q ↦ rw (q.0, q.1, is) none ];
    pending = p;
  }
    where
      one : (c : Family) → Keeps new c → Keeps old c × (c f v ≡ true)
      one c k =
          let here : VertexKept c f v (Some y) = rw is at (k.vertices f v) in
          let all : AreIn c (old.work.items ++ source_list x.sources) = rw w at k.work in (
            record {
              vertices = kept c f v new old x (back_again f v old.rows.items new.rows.items but) was k.vertices (record {
                needed = λ h. here.needed need;
                sources = λ h. all_back _ old.work.items (source_list x.sources) all;
              });
              work = all_front _ old.work.items (source_list x.sources) all;
            },
            here.needed need,
          )

      other : (c : Family) → Keeps old c × (c f v ≡ true) → Keeps new c
      other c (k, i) =
          let here : VertexKept c f v (Some x) = rw was at (k.vertices f v) in
          record {
            vertices = kept c f v old new y but is k.vertices (record {
              needed = λ h. i;
              sources = λ h. rw none tt;
            });
            work = rw w (all_join _ old.work.items (source_list x.sources) k.work (here.sources i));
          }

-- ---- how many links there are after a write

row_links : (xs : List Vertex) (v : ℕ) (x y : Vertex) → v < length xs → x ≡ get_or xs v x → links_of_row (set xs v y) + length (source_list x.sources) ≡ links_of_row xs + length (source_list y.sources)
row_links [] v x y lt e = absurd (omega arith)
row_links (z ∷ zs) zero x y lt e = let same : length (source_list x.sources) ≡ length (source_list z.sources) = ap (λ (u : Vertex). length (source_list u.sources)) e in omega arith
row_links (z ∷ zs) (suc v) x y lt e = omega (arith, row_links zs v x y (omega arith) e)

rows_links : (rows : Rows) (f : ℕ) (row new : Vec Vertex Global) → f < length rows → row ≡ get_or rows f row → links_of (set rows f new) + links_of_row row.items ≡ links_of rows + links_of_row new.items
rows_links [] f row new lt e = absurd (omega arith)
rows_links (r ∷ rs) zero row new lt e = let same : links_of_row row.items ≡ links_of_row r.items = ap (λ (u : Vec Vertex Global). links_of_row u.items) e in omega arith
rows_links (r ∷ rs) (suc f) row new lt e = omega (arith, rows_links rs f row new (omega arith) e)

pub links_moved : (rows : Rows) (f v : ℕ) (row : Vec Vertex Global) (x y : Vertex) (old new : List SliceNode) → f < length rows → row ≡ get_or rows f row → v < length row.items → x ≡ get_or row.items v x → source_list y.sources ≡ [] → new ≡ old ++ source_list x.sources → length new + links_of (set rows f (with_item row v y)) ≡ length old + links_of rows
links_moved rows f v row x y old new lt is inside this none moved =
    let a = row_links row.items v x y inside this in
    let b = rows_links rows f row (with_item row v y) lt is in
    let n : length (source_list y.sources) ≡ 0 = ap length none in
    let m : length new ≡ length old + length (source_list x.sources) = rw moved (length-append old (source_list x.sources)) in
    omega arith
