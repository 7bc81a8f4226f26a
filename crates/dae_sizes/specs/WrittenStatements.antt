-- The work of statements, as they are written and as they are typed, however often each of them is executed. What each statement
-- has of its own is counted: itself, the turns of a loop, the labels of a switch, and the nodes of its expressions that are
-- surely evaluated. Bytes that are printed, bytes of aggregates that are cleared and items that are set count alike in both, and
-- are left out.
use Rattle.std.specs.Prelude.{◌≡◌, ℕ, zero, suc, ◌+◌, ◌*◌, ◌≤◌, Bool, true, false, List, [], ◌∷◌, Option, Some, None, Ok}
use Rattle.dae_base.specs.declared.Place.{Place}
use Rattle.dae_tree.specs.Trees as tree
use Rattle.dae_tree.specs.Depth.{place_of, place_of_specifiers}
use Rattle.dae_tree.specs.Names.{has_typedef}
use Rattle.dae_program.specs.declared.statements.FormatPiece.{FormatPiece}
use Rattle.dae_program.specs.declared.statements.FormatPiece.TheVariants as piece
use Rattle.dae_program.specs.Switches.{count_labels}
use Rattle.dae_program.specs.Trees as program
use Rattle.dae_types_kinds.specs.Tables.{Tables}
use Rattle.dae_types_rules.specs.Plan.{check_of}
use Rattle.dae_types_plans.specs.Steps.{declared_place}
use Rattle.dae_types_file_plans.specs.declared.surroundings.Surrounding.{Surrounding}
use Rattle.dae_types_file_plans.specs.Statements.{plan_block}
use Rattle.dae_sizes.specs.Written.{nodes, ticks}

-- how often a statement at a place is begun, or an object that is declared there gets its first value; how often a turn of the
-- loop there is begun, also the last one, whose test fails; and how often what stands behind the body of the loop is evaluated
pub record Often : Type 0 where
  pub begun : Place → ℕ
  pub turned : Place → ℕ
  pub stepped : Place → ℕ

-- n times a
abbrev pub so_often : ℕ → ℕ → ℕ
so_often zero a = 0
so_often (suc n) a = a + so_often n a

-- ---- as they are written (C90 6.5, 6.6)

abbrev pub nodes_of_some : Option tree.Expression → ℕ
nodes_of_some None = 0
nodes_of_some (Some e) = nodes e

-- a scalar's initialiser is an expression, perhaps in braces
abbrev mutual
  pub nodes_of_initialiser : tree.Initialiser → ℕ
  nodes_of_initialiser (tree.Value e) = nodes e
  nodes_of_initialiser (tree.Listed p xs c) = nodes_of_first xs

  pub nodes_of_first : tree.Initialisers → ℕ
  nodes_of_first tree.no_initialisers = 0
  nodes_of_first (tree.initialiser_then x xs) = nodes_of_initialiser x

abbrev pub nodes_of_value : Option (Place × tree.Initialiser) → ℕ
nodes_of_value None = 0
nodes_of_value (Some x) = nodes_of_initialiser x.1

-- a typedef sets nothing
abbrev pub written_items : Often → Bool → Place → List tree.InitDeclarator → ℕ
written_items o is_typedef q [] = 0
written_items o true q (i ∷ items) = written_items o true q items
written_items o false q (i ∷ items) =
    so_often (o.begun (declared_place i.declarator q)) (1 + nodes_of_value i.initialiser) + written_items o false q items

abbrev pub written_declarations : Often → List tree.Declaration → ℕ
written_declarations o [] = 0
written_declarations o (d ∷ ds) =
    written_items o (has_typedef d.specifiers) (place_of_specifiers d.specifiers d.end) d.items + written_declarations o ds

-- the labels right before a statement, and those of the body of a switch
abbrev pub labels_before : tree.Statement → ℕ
labels_before (tree.Case p e s) = 1 + labels_before s
labels_before (tree.Default p s) = 1 + labels_before s
labels_before s = 0

abbrev pub labels_of_all : tree.Statements → ℕ
labels_of_all tree.no_statements = 0
labels_of_all (tree.statement_then s ss) = labels_before s + labels_of_all ss

abbrev pub labels_in : tree.Statement → ℕ
labels_in (tree.Block p ds ss) = labels_of_all ss
labels_in s = 0

-- the first expression of a `for`
abbrev pub written_start : Often → Option tree.Expression → ℕ
written_start o None = 0
written_start o (Some e) = so_often (o.begun (place_of e)) (nodes e)

abbrev mutual
  pub written : Often → tree.Statement → ℕ
  written o (tree.Block p ds ss) = written_declarations o ds + written_all o ss
  written o (tree.Nothing p) = 0
  written o (tree.Evaluate e p) = so_often (o.begun (place_of e)) (1 + nodes e)
  written o (tree.If p q e s) = so_often (o.begun p) (1 + nodes e) + written o s
  written o (tree.IfElse p q e s u) = so_often (o.begun p) (1 + nodes e) + (written o s + written o u)
  written o (tree.While p q e s) = so_often (o.begun p) 1 + (so_often (o.turned p) (1 + nodes e) + written o s)
  written o (tree.Do p s q r e u) =
      so_often (o.begun p) 1 + (so_often (o.turned p) 1 + (written o s + so_often (o.stepped p) (nodes e)))
  written o (tree.For p q a r b u c s) =
      written_start o a + (so_often (o.begun p) 1 + (so_often (o.turned p) (1 + nodes_of_some b) + (so_often (o.stepped p) (nodes_of_some c) + written o s)))
  written o (tree.Break p q) = so_often (o.begun p) 1
  written o (tree.Continue p q) = so_often (o.begun p) 1
  written o (tree.Return p e q) = so_often (o.begun p) (1 + nodes_of_some e)
  written o (tree.Switch p q e s) = so_often (o.begun p) (1 + (labels_in s + nodes e)) + written o s
  written o (tree.Case p e s) = written o s
  written o (tree.Default p s) = written o s

  pub written_all : Often → tree.Statements → ℕ
  written_all o tree.no_statements = 0
  written_all o (tree.statement_then s ss) = written o s + written_all o ss

-- ---- as they are typed: units of work, as `execute` of dae_program counts them

abbrev pub ticks_of_some : Option program.Expression → ℕ
ticks_of_some None = 0
ticks_of_some (Some e) = ticks e

-- each argument of a printf is one more
abbrev pub ticks_of_printed : program.Expressions → ℕ
ticks_of_printed program.no_expressions = 0
ticks_of_printed (program.expression_then e es) = 1 + (ticks e + ticks_of_printed es)

-- those pieces of a format that print an argument
abbrev pub conversions : List FormatPiece → ℕ
conversions [] = 0
conversions (piece.Byte b ∷ ps) = conversions ps
conversions (piece.Word spelling k ∷ ps) = 1 + conversions ps
conversions (piece.String k ∷ ps) = 1 + conversions ps

abbrev mutual
  pub units : Often → program.Statements → ℕ
  units o program.Done = 0
  units o (program.Evaluate p e k) = so_often (o.begun p) (1 + ticks e) + units o k
  units o (program.Initialise p offset size items k) = so_often (o.begun p) 1 + units o k
  units o (program.Print p xs pieces k) = so_often (o.begun p) (1 + (ticks_of_printed xs + conversions pieces)) + units o k
  units o (program.If p e t u k) = so_often (o.begun p) (1 + ticks e) + (units o t + (units o u + units o k))
  units o (program.Loop p test body step k) =
      so_often (o.begun p) 1 + (so_often (o.turned p) (1 + ticks_of_some test) + (so_often (o.stepped p) (ticks_of_some step) + (units o body + units o k)))
  units o (program.Do p body test k) =
      so_often (o.begun p) 1 + (so_often (o.turned p) 1 + (so_often (o.stepped p) (ticks test) + (units o body + units o k)))
  units o (program.Switch p e arms k) = so_often (o.begun p) (1 + (count_labels arms + ticks e)) + (units_of_arms o arms + units o k)
  units o (program.Break p k) = so_often (o.begun p) 1 + units o k
  units o (program.Continue p k) = so_often (o.begun p) 1 + units o k
  units o (program.Return p e k) = so_often (o.begun p) (1 + ticks_of_some e) + units o k

  pub units_of_arms : Often → program.Arms → ℕ
  units_of_arms o program.no_arms = 0
  units_of_arms o (program.arm_then labels t rest) = units o t + units_of_arms o rest

-- ---- the law: of the block of a function the typed statements have at most four units of work for each that is written, however
-- often each is executed, whatever was declared before

abbrev pub BlocksAreFew : Type 0
BlocksAreFew =
    (o : Often) (c : Surrounding) (ds : List tree.Declaration) (ss : tree.Statements) (s t : Tables) (x : program.Statements) →
    check_of (plan_block c ds ss) s ≡ Ok (t, x) → units o x ≤ 4 * (written_declarations o ds + written_all o ss)
