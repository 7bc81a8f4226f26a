-- Nodes that are records or have many parts, made of equal parts.
use Rattle.std.proofs.Common.{◌≡◌, List, Some, None}
use Rattle.dae_base.specs.declared.Place.{Place}
use Rattle.dae_tree.specs.declared.expressions.Name.{Name}
use Rattle.dae_tree.specs.Trees as tree
use Rattle.dae_tree.specs.Lists as lists

abbrev pub plain_item : tree.Declarator → tree.InitDeclarator
plain_item d = record { declarator = d; initialiser = None }

abbrev pub valued_item : Place → tree.Declarator → tree.Initialiser → tree.InitDeclarator
valued_item p d x = record { declarator = d; initialiser = Some (p, x) }

abbrev pub valued_entry : Name → Place → tree.Expression → lists.EnumEntry
valued_entry n p e = record { name = n; value = Some (p, e) }

abbrev pub line_of : Place → tree.Specifiers → tree.Declarators → lists.MemberLine
line_of p ws ds = record { specifiers = ws; declarators = ds; end = p }

abbrev pub parameter_of : tree.Specifiers → tree.Declarator → lists.Parameter
parameter_of ws d = record { specifiers = ws; declarator = d }

abbrev pub declaration_of : Place → tree.Specifiers → List tree.InitDeclarator → tree.Declaration
declaration_of p ws items = record { specifiers = ws; items = items; end = p }

pub defined_same : {ws ws' : tree.Specifiers} {d d' : tree.Declarator} {p p' : Place} {ds ds' : List tree.Declaration} {ss ss' : tree.Statements}
    → ws ≡ ws' → d ≡ d' → tree.Block p ds ss ≡ tree.Block p' ds' ss' → tree.Defined ws d p ds ss ≡ tree.Defined ws' d' p' ds' ss'
defined_same e f g = cc
