-- At most three variables are made for a node; and so the form of each function of a program is small.
use Rattle.dae_base.specs.declared.Place.{Place}
use Rattle.dae_lower.specs.Lowering.{function_code}
use Rattle.std.proofs.Common.{ℕ, Bool, true, false, ◌+◌, ◌*◌, ◌≤◌, List, [], ◌∷◌, length, Option, Some, None, sym, ◌∙◌, subst, arith}
use Rattle.std.specs.Prelude.{nat_eq}
use Rattle.std.proofs.lemmas.Option.{same_Some}
use Rattle.dae_ir.specs.Form.{Form}
use Rattle.dae_ir.specs.Sizes.{form_size}
use Rattle.dae_ir.specs.declared.form.Function.{Function as FormFunction}
use Rattle.dae_program.specs.Trees as tree
use Rattle.dae_program.specs.Trees.{Expression, Target, Expressions, Setting, Statements, Arms}
use Rattle.dae_program.specs.declared.program.FrameSlot.{FrameSlot}
use Rattle.dae_program.specs.declared.statements.FormatPiece.{FormatPiece}
use Rattle.dae_program.specs.declared.statements.FormatPiece.TheVariants as piece
use Rattle.dae_lower_formed.specs.Formed.{plain}
use Rattle.dae_lower_formed.specs.Sizes.{nodes, nodes_of_target, nodes_of_all, nodes_of_some, nodes_of_items, nodes_of_statements, nodes_of_arms, nodes_of_function, most_made, most_made_for, most_made_of_all, most_made_of_some, most_made_of_items, most_made_of_pieces, most_made_in, most_made_in_arms, most_made_of_slots, most_made_in_function, IsSmall, FormsSmall}
use Rattle.dae_lower_formed.proofs.Programs.{form_there}
use Rattle.dae_ir.specs.Code as code
use Rattle.dae_ir.specs.declared.form.Item.{Item}
use Rattle.dae_ir.specs.declared.form.Item.TheVariants as item
use Rattle.dae_ir.specs.Sizes.{item_weight}
use Rattle.dae_ir_pair.specs.Sizes.{item_burden, burden}
use Rattle.dae_lower_formed.specs.Code.{loads_in, most_code, most_code_for, most_code_of_all, most_code_of_some, most_code_of_items, most_code_of_pieces, most_code_in, most_code_in_arms, most_code_of_slots, most_code_in_function}
use Rattle.dae_lower_formed.proofs.SmallStatements.{function_loads, function_small, code_within}

mutual
  at_most : (e : Expression) → most_made e ≤ 3 * nodes e
  at_most (tree.Number k) = omega arith
  at_most (tree.Address object offset) = omega arith
  at_most (tree.Frame p offset) = omega arith
  at_most (tree.Variable p v) = omega arith
  at_most (tree.Read p kind checked a) = let h = at_most a in omega (arith, h)
  at_most (tree.Convert p kind a) = let h = at_most a in omega (arith, h)
  at_most (tree.Not p a) = let h = at_most a in omega (arith, h)
  at_most (tree.Binary p operator a b) = let h = at_most a in let g = at_most b in omega (arith, h, g)
  at_most (tree.Compare p comparison turned a b) = let h = at_most a in let g = at_most b in omega (arith, h, g)
  at_most (tree.And p a b) = let h = at_most a in let g = at_most b in omega (arith, h, g)
  at_most (tree.Or p a b) = let h = at_most a in let g = at_most b in omega (arith, h, g)
  at_most (tree.Conditional p a b c) = let h = at_most a in let g = at_most b in let f = at_most c in omega (arith, h, g, f)
  at_most (tree.Comma a b) = let h = at_most a in let g = at_most b in omega (arith, h, g)
  at_most (tree.Assign p kind t a) = let h = at_most_for t in let g = at_most a in omega (arith, h, g)
  at_most (tree.Update p kind t operator a) = let h = at_most_for t in let g = at_most a in omega (arith, h, g)
  at_most (tree.Step p kind t change new) = let h = at_most_for t in omega (arith, h)
  at_most (tree.Call p f xs) = let h = at_most_of_all xs in omega (arith, h)
  at_most (tree.Putchar p a) = let h = at_most a in omega (arith, h)
  at_most (tree.Exit p a) = let h = at_most a in omega (arith, h)
  at_most (tree.Abort p) = omega arith

  at_most_for : (t : Target) → most_made_for t ≤ 3 * nodes_of_target t
  at_most_for (tree.InVariable v) = omega arith
  at_most_for (tree.AtAddress checked a) = at_most a

  at_most_of_all : (xs : Expressions) → most_made_of_all xs ≤ 3 * nodes_of_all xs
  at_most_of_all tree.no_expressions = omega arith
  at_most_of_all (tree.expression_then a xs) = let h = at_most a in let g = at_most_of_all xs in omega (arith, h, g)

at_most_of_some : (e : Option Expression) → most_made_of_some e ≤ 3 * nodes_of_some e
at_most_of_some None = omega arith
at_most_of_some (Some e) = at_most e

at_most_of_items : (items : List Setting) → most_made_of_items items ≤ 3 * nodes_of_items items
at_most_of_items [] = omega arith
at_most_of_items (item ∷ items) = let h = at_most item.value in let g = at_most_of_items items in omega (arith, h, g)

at_most_of_pieces : (ps : List FormatPiece) → most_made_of_pieces ps ≤ 3 * length ps
at_most_of_pieces [] = omega arith
at_most_of_pieces (piece.Byte b ∷ ps) = let h = at_most_of_pieces ps in omega (arith, h)
at_most_of_pieces (piece.Word spelling k ∷ ps) = let h = at_most_of_pieces ps in omega (arith, h)
at_most_of_pieces (piece.String k ∷ ps) = let h = at_most_of_pieces ps in omega (arith, h)

mutual
  at_most_in : (t : Statements) → most_made_in t ≤ 3 * nodes_of_statements t
  at_most_in tree.Done = omega arith
  at_most_in (tree.Evaluate p e k) = let h = at_most e in let g = at_most_in k in omega (arith, h, g)
  at_most_in (tree.Initialise p offset size items k) = let h = at_most_of_items items in let g = at_most_in k in omega (arith, h, g)
  at_most_in (tree.Print p xs pieces k) = let h = at_most_of_all xs in let f = at_most_of_pieces pieces in let g = at_most_in k in omega (arith, h, f, g)
  at_most_in (tree.If p e t u k) = let h = at_most e in let f = at_most_in t in let d = at_most_in u in let g = at_most_in k in omega (arith, h, f, d, g)
  at_most_in (tree.Loop p test body step k) = let h = at_most_of_some test in let f = at_most_in body in let d = at_most_of_some step in let g = at_most_in k in omega (arith, h, f, d, g)
  at_most_in (tree.Do p body test k) = let h = at_most test in let f = at_most_in body in let g = at_most_in k in omega (arith, h, f, g)
  at_most_in (tree.Switch p e arms k) = let h = at_most e in let f = at_most_in_arms arms in let g = at_most_in k in omega (arith, h, f, g)
  at_most_in (tree.Break p k) = let g = at_most_in k in omega (arith, g)
  at_most_in (tree.Continue p k) = let g = at_most_in k in omega (arith, g)
  at_most_in (tree.Return p e k) = let h = at_most_of_some e in let g = at_most_in k in omega (arith, h, g)

  at_most_in_arms : (arms : Arms) → most_made_in_arms arms ≤ 3 * nodes_of_arms arms
  at_most_in_arms tree.no_arms = omega arith
  at_most_in_arms (tree.arm_then labels t rest) = let h = at_most_in t in let g = at_most_in_arms rest in omega (arith, h, g)

at_most_of_slots : (slots : List (Option FrameSlot)) → most_made_of_slots slots ≤ 3 * length slots
at_most_of_slots [] = omega arith
at_most_of_slots (None ∷ slots) = let h = at_most_of_slots slots in omega (arith, h)
at_most_of_slots (Some slot ∷ slots) = let h = at_most_of_slots slots in omega (arith, h)

at_most_in_function : (f : tree.Function) → most_made_in_function f ≤ 3 * nodes_of_function f
at_most_in_function f = let h = at_most_of_slots f.parameters in let g = at_most_in f.body in omega (arith, h, g)

-- ---- a form weighs at least twice its size, and a node at most 20

twice_item : (x : Item) → 2 * item_weight x ≤ item_burden x
twice_item (item.Call v f xs) = omega arith
twice_item x = omega arith

twice : (c : Form) → 2 * form_size c ≤ burden c
twice code.Done = omega arith
twice (code.Do mark x k) = let h = twice_item x in let g = twice k in omega (arith, h, g)
twice (code.If mark t p q k) = let h = twice p in let g = twice q in let f = twice k in omega (arith, h, g, f)
twice (code.Loop mark b s k) = let h = twice b in let g = twice s in let f = twice k in omega (arith, h, g, f)

mutual
  code_most : (e : Expression) → most_code e ≤ 20 * nodes e
  code_most (tree.Number k) = omega arith
  code_most (tree.Address object offset) = omega arith
  code_most (tree.Frame p offset) = omega arith
  code_most (tree.Variable p v) = omega arith
  code_most (tree.Read p kind true a) = let h = code_most a in omega (arith, h)
  code_most (tree.Read p kind false a) = let h = code_most a in omega (arith, h)
  code_most (tree.Convert p kind a) = let h = code_most a in omega (arith, h)
  code_most (tree.Not p a) = let h = code_most a in omega (arith, h)
  code_most (tree.Binary p operator a b) = let h = code_most a in let g = code_most b in omega (arith, h, g)
  code_most (tree.Compare p comparison turned a b) = let h = code_most a in let g = code_most b in omega (arith, h, g)
  code_most (tree.And p a b) = let h = code_most a in let g = code_most b in omega (arith, h, g)
  code_most (tree.Or p a b) = let h = code_most a in let g = code_most b in omega (arith, h, g)
  code_most (tree.Conditional p a b c) = let h = code_most a in let g = code_most b in let f = code_most c in omega (arith, h, g, f)
  code_most (tree.Comma a b) = let h = code_most a in let g = code_most b in omega (arith, h, g)
  code_most (tree.Assign p kind t a) = let h = code_most_for t in let g = code_most a in omega (arith, h, g)
  code_most (tree.Update p kind t operator a) = let h = code_most_for t in let g = code_most a in omega (arith, h, g)
  code_most (tree.Step p kind t change new) = let h = code_most_for t in omega (arith, h)
  code_most (tree.Call p f xs) = let h = code_most_of_all xs in omega (arith, h)
  code_most (tree.Putchar p a) = let h = code_most a in omega (arith, h)
  code_most (tree.Exit p a) = let h = code_most a in omega (arith, h)
  code_most (tree.Abort p) = omega arith

  code_most_for : (t : Target) → most_code_for t ≤ 20 * nodes_of_target t
  code_most_for (tree.InVariable v) = omega arith
  code_most_for (tree.AtAddress checked a) = code_most a

  code_most_of_all : (xs : Expressions) → most_code_of_all xs ≤ 20 * nodes_of_all xs
  code_most_of_all tree.no_expressions = omega arith
  code_most_of_all (tree.expression_then a xs) = let h = code_most a in let g = code_most_of_all xs in omega (arith, h, g)

code_most_of_some : (e : Option Expression) → most_code_of_some e ≤ 20 * nodes_of_some e
code_most_of_some None = omega arith
code_most_of_some (Some e) = code_most e

code_most_of_items : (items : List Setting) → most_code_of_items items ≤ 20 * nodes_of_items items
code_most_of_items [] = omega arith
code_most_of_items (item ∷ items) = let h = code_most item.value in let g = code_most_of_items items in omega (arith, h, g)

code_most_of_pieces : (ps : List FormatPiece) → most_code_of_pieces ps ≤ 20 * length ps
code_most_of_pieces [] = omega arith
code_most_of_pieces (piece.Byte b ∷ ps) = let h = code_most_of_pieces ps in omega (arith, h)
code_most_of_pieces (piece.Word spelling k ∷ ps) = let h = code_most_of_pieces ps in omega (arith, h)
code_most_of_pieces (piece.String k ∷ ps) = let h = code_most_of_pieces ps in omega (arith, h)

mutual
  code_most_in : (t : Statements) → most_code_in t ≤ 20 * nodes_of_statements t
  code_most_in tree.Done = omega arith
  code_most_in (tree.Evaluate p e k) = let h = code_most e in let g = code_most_in k in omega (arith, h, g)
  code_most_in (tree.Initialise p offset size items k) = let h = code_most_of_items items in let g = code_most_in k in omega (arith, h, g)
  code_most_in (tree.Print p xs pieces k) = let h = code_most_of_all xs in let f = code_most_of_pieces pieces in let g = code_most_in k in omega (arith, h, f, g)
  code_most_in (tree.If p e t u k) = let h = code_most e in let f = code_most_in t in let d = code_most_in u in let g = code_most_in k in omega (arith, h, f, d, g)
  code_most_in (tree.Loop p test body step k) = let h = code_most_of_some test in let f = code_most_in body in let d = code_most_of_some step in let g = code_most_in k in omega (arith, h, f, d, g)
  code_most_in (tree.Do p body test k) = let h = code_most test in let f = code_most_in body in let g = code_most_in k in omega (arith, h, f, g)
  code_most_in (tree.Switch p e arms k) = let h = code_most e in let f = code_most_in_arms arms in let g = code_most_in k in omega (arith, h, f, g)
  code_most_in (tree.Break p k) = let g = code_most_in k in omega (arith, g)
  code_most_in (tree.Continue p k) = let g = code_most_in k in omega (arith, g)
  code_most_in (tree.Return p e k) = let h = code_most_of_some e in let g = code_most_in k in omega (arith, h, g)

  code_most_in_arms : (arms : Arms) → most_code_in_arms arms ≤ 20 * nodes_of_arms arms
  code_most_in_arms tree.no_arms = omega arith
  code_most_in_arms (tree.arm_then labels t rest) = let h = code_most_in t in let g = code_most_in_arms rest in omega (arith, h, g)

code_most_of_slots : (slots : List (Option FrameSlot)) → most_code_of_slots slots ≤ 20 * length slots
code_most_of_slots [] = omega arith
code_most_of_slots (None ∷ slots) = let h = code_most_of_slots slots in omega (arith, h)
code_most_of_slots (Some slot ∷ slots) = let h = code_most_of_slots slots in omega (arith, h)

code_most_in_function : (f : tree.Function) → most_code_in_function f ≤ 20 * nodes_of_function f
code_most_in_function f = let h = code_most_of_slots f.parameters in let g = code_most_in f.body in omega (arith, h, g)

code_small : (p : Place) (is_main : Bool) (f : tree.Function) (n : ℕ) → form_size (function_code p is_main f n) ≤ 10 * nodes_of_function f
code_small p is_main f n =
    let h = twice (function_code p is_main f n) in
    let g : burden (function_code p is_main f n) + loads_in (function_code p is_main f n) ≤ most_code_in_function f = code_within p is_main f n in
    let c = code_most_in_function f in omega (arith, h, g, c)

pub forms_small : FormsSmall
forms_small p ir form k f g e i =
    let found = form_there p 0 p.functions ir.functions form.functions k f e in
    let is = found.2 in
    subst (λ (h : FormFunction). IsSmall (plain p f) f.variables h) (same_Some found.0 g (sym found.1 ∙ i)) (record {
      variables = let h = (function_small f.place (plain p f) f.variables).few in let v = is.variables in omega (arith, h, v);
      made = at_most_in_function (plain p f);
      code = subst (λ (c : Form). form_size c ≤ 10 * nodes_of_function (plain p f)) (sym is.body) (code_small f.place (nat_eq (0 + k) p.main) (plain p f) f.variables);
      loads = subst (λ (c : Form). f.variables + loads_in c ≤ found.0.variables) (sym is.body) (let h = function_loads f.place (nat_eq (0 + k) p.main) (plain p f) f.variables in let v = is.variables in omega (arith, h, v));
    })
