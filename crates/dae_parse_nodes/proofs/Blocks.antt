-- A statement that is seen as a block is one.
use Rattle.std.proofs.Common.{◌≡◌, ◌≢◌, List, Option, Some, None, sym, ap, ◌∙◌, arith}
use Rattle.std.specs.Prelude.{Box, slice_get}
use Rattle.std.specs.declared.alloc.Global.{Global}
use Rattle.dae_base.specs.declared.Place.{Place}
use Rattle.dae_tree.specs.declared.statements.Block.{Block}
use Rattle.dae_tree.specs.declared.statements.Statement.{Statement, roll-Statement, roll-out-Statement}
use Rattle.dae_tree.specs.declared.statements.Statement.TheVariants as statement
use Rattle.dae_tree.specs.Trees as tree
use Rattle.dae_tree.specs.FileViews.{view_statement}
use Rattle.dae_parse_parts.specs.declared.reading.Read.{Read}
use Rattle.dae_parse_nodes.specs.Parts.{ShowsStatement}

pub not_block : (s : Statement) (p : Place) (ds : List tree.Declaration) (ss : tree.Statements) → ((b : Block) → s ≢ statement.Block b) → view_statement s ≢ tree.Block p ds ss
not_block (statement.Block' q es shape row) p ds ss never e =
    never _ (sym (roll-out-Statement (statement.Block' q es shape row)) ∙ ap roll-Statement (statement.outs-Block' q es shape row) ∙ statement.rolls-Block _)
not_block (statement.Empty q) p ds ss never e = cc
not_block (statement.Evaluate a q) p ds ss never e = cc
not_block (statement.If' q t b s) p ds ss never e = cc
not_block (statement.IfElse' q t b s c u) p ds ss never e = cc
not_block (statement.While' q t b s) p ds ss never e = cc
not_block (statement.Do' q b s r t u) p ds ss never e = cc
not_block (statement.For' q r h b s) p ds ss never e = cc
not_block (statement.Break q r) p ds ss never e = cc
not_block (statement.Continue q r) p ds ss never e = cc
not_block (statement.Return q a r) p ds ss never e = cc
not_block (statement.Switch' q t b s) p ds ss never e = cc
not_block (statement.Case' q a b s) p ds ss never e = cc
not_block (statement.Default' q b s) p ds ss never e = cc

-- the place of a block is that of its first node
pub at_block : (read : Read (Box Statement Global)) (p : Place) (ds : List tree.Declaration) (ss : tree.Statements) → ShowsStatement read (tree.Block p ds ss) → slice_get read.depths.places.items 0 ≡ Some p
at_block read p ds ss h = h.holds.places.entries 0 (omega arith)

pub same_place : (p q : Place) → Some p ≡ Some q → p ≡ q
same_place p q e = cc

pub no_place : (p : Place) → ◌≡◌ {A = Option Place} None (Some p) → ⊥
no_place p e = cc
