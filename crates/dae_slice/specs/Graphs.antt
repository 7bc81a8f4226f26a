-- Graphs of variables, and what a family of sets keeps of one: it holds each variable that is needed, and with the end
-- of a link its start.
use Rattle.std.specs.Prelude.{◌≡◌, ◌↔◌, ℕ, Bool, true, false, ◌+◌, List, [], ◌∷◌, length, slice_get, Option, Some, None, is_some, nat_lt}
use Rattle.std.specs.List.{AllByRecursion}
use Rattle.std.specs.Prelude.{Vec}
use Rattle.std.specs.declared.alloc.Global.{Global}
use Rattle.dae_ir.specs.Classes.{VariableSet, IsWithin}
use Rattle.dae_ir.specs.declared.form.Function.{Function}
use Rattle.dae_slice.specs.SourceLists.{source_list}
use Rattle.dae_slice.specs.declared.graph.SliceNode.{SliceNode}
use Rattle.dae_slice.specs.declared.graph.Vertex.{Vertex}
use Rattle.dae_slice.specs.declared.graph.Graph.{Graph}

-- a set of variables for each function
abbrev pub Family : Type 0
Family = ℕ → VariableSet

-- the vertex of a variable of a function
abbrev pub vertex_in : Option (Vec Vertex Global) → ℕ → Option Vertex
vertex_in None v = None
vertex_in (Some row) v = slice_get row.items v

abbrev pub vertex : Graph → ℕ → ℕ → Option Vertex
vertex g f v = vertex_in (slice_get g.rows.items f) v

abbrev pub exists : Graph → Family
exists g f v = is_some (vertex g f v)

-- it is marked as needed
abbrev pub is_needed : Option Vertex → Bool
is_needed None = false
is_needed (Some x) = x.needed

abbrev pub marked : Graph → Family
marked g f v = is_needed (vertex g f v)

-- the variables with links to it
abbrev pub sources : Option Vertex → List SliceNode
sources None = []
sources (Some x) = source_list x.sources

-- all are in the family
abbrev pub AreIn : Family → List SliceNode → Type 0
AreIn c = AllByRecursion (λ n. c n.function n.variable ≡ true)

-- what a family keeps of one vertex, and of a graph
pub record VertexKept (c : Family) (f v : ℕ) (x : Option Vertex) : Type 0 where
  pub needed : is_needed x ≡ true → c f v ≡ true
  pub sources : c f v ≡ true → AreIn c (sources x)

pub record Keeps (g : Graph) (c : Family) : Type 0 where
  pub vertices : (f v : ℕ) → VertexKept c f v (vertex g f v)
  pub work : AreIn c g.work.items

-- the same vertices, and the same marks
pub record IsLike (old new : Graph) : Type 0 where
  pub exists : (f v : ℕ) → exists new f v ≡ exists old f v
  pub marked : (f v : ℕ) → marked new f v ≡ marked old f v

-- what a graph keeps besides
pub record Adds (P : Family → Type 0) (old new : Graph) : Type 0 where
  pub like : IsLike old new
  pub keeps : (c : Family) → Keeps new c ↔ (Keeps old c × P c)

-- ---- a new graph

-- how many variables a function has
abbrev pub variables_of : Option Function → ℕ
variables_of None = 0
variables_of (Some function) = function.variables

-- the variables of each function
abbrev pub in_range : List Function → Family
in_range functions f v = nat_lt v (variables_of (slice_get functions f))

pub record IsNew (x : Vertex) : Type 0 where
  pub needed : x.needed ≡ false
  pub sources : source_list x.sources ≡ []

pub record IsNewRow (variables : ℕ) (row : List Vertex) : Type 0 where
  pub length : length row ≡ variables
  pub new : AllByRecursion IsNew row

-- a vertex for each variable, no links, and nothing is needed
pub record IsFresh (functions : List Function) (g : Graph) : Type 0 where
  pub exists : (f v : ℕ) → exists g f v ≡ in_range functions f v
  pub marked : (f v : ℕ) → marked g f v ≡ false
  pub keeps : (c : Family) → Keeps g c

-- ---- the spreading of marks

-- what is marked has handed on its links
abbrev pub IsSettled : Graph → Type 0
IsSettled g = (f v : ℕ) → marked g f v ≡ true → sources (vertex g f v) ≡ []

-- how many links and needed variables are still to be followed
abbrev pub links_of_row : List Vertex → ℕ
links_of_row [] = 0
links_of_row (x ∷ xs) = length (source_list x.sources) + links_of_row xs

abbrev pub links_of : List (Vec Vertex Global) → ℕ
links_of [] = 0
links_of (row ∷ rows) = links_of_row row.items + links_of rows

abbrev pub pending : Graph → ℕ
pending g = length g.work.items + links_of g.rows.items

-- the variable n has been marked, and is followed no more
pub record Settles (n : SliceNode) (old new : Graph) : Type 0 where
  pub exists : (f v : ℕ) → exists new f v ≡ exists old f v
  pub keeps : (c : Family) → Keeps new c ↔ (Keeps old c × (c n.function n.variable ≡ true))
  pub settled : IsSettled old → IsSettled new
  pub pending : pending new ≡ pending old

-- the least family that the graph keeps
pub record IsLeastKept (g : Graph) (s : Family) : Type 0 where
  pub kept : Keeps g s
  pub least : (c : Family) → Keeps g c → (f : ℕ) → IsWithin (s f) (c f)
