-- What lowering makes of a typed tree is no more than the tree weighs.
use Rattle.std.proofs.Common.{◌*◌, ◌≤◌, true, false, List, [], ◌∷◌, length, Option, Some, None, arith}
use Rattle.dae_program.specs.Trees as tree
use Rattle.dae_program.specs.Trees.{Expression, Target, Expressions, Setting, Statements, Arms}
use Rattle.dae_program.specs.declared.statements.FormatPiece.{FormatPiece}
use Rattle.dae_program.specs.declared.statements.FormatPiece.TheVariants as piece
use Rattle.dae_program.specs.declared.program.FrameSlot.{FrameSlot}
use Rattle.dae_lower_formed.specs.Sizes.{most_made, most_made_for, most_made_of_all, most_made_of_some, most_made_of_items, most_made_of_pieces, most_made_in, most_made_in_arms, most_made_of_slots}
use Rattle.dae_sizes.specs.Weights.{weight, weight_of_target, weight_of_all, weight_of_some, weight_of_items, weight_of_pieces, weight_in, weight_in_arms}
use Rattle.dae_lower_formed.specs.Code.{most_code, most_code_for, most_code_of_all, most_code_of_some, most_code_of_items, most_code_of_pieces, most_code_in, most_code_in_arms, most_code_of_slots}

-- ---- variables

mutual
  made_weighs : (e : Expression) → most_made e ≤ weight 0 e
  made_weighs (tree.Number k) = omega arith
  made_weighs (tree.Address object offset) = omega arith
  made_weighs (tree.Frame p offset) = omega arith
  made_weighs (tree.Variable p v) = omega arith
  made_weighs (tree.Read p kind checked a) = let h = made_weighs a in omega (arith, h)
  made_weighs (tree.Convert p kind a) = let h = made_weighs a in omega (arith, h)
  made_weighs (tree.Not p a) = let h = made_weighs a in omega (arith, h)
  made_weighs (tree.Binary p operator a b) = let h = made_weighs a in let g = made_weighs b in omega (arith, h, g)
  made_weighs (tree.Compare p comparison turned a b) = let h = made_weighs a in let g = made_weighs b in omega (arith, h, g)
  made_weighs (tree.And p a b) = let h = made_weighs a in let g = made_weighs b in omega (arith, h, g)
  made_weighs (tree.Or p a b) = let h = made_weighs a in let g = made_weighs b in omega (arith, h, g)
  made_weighs (tree.Conditional p a b d) = let h = made_weighs a in let g = made_weighs b in let f = made_weighs d in omega (arith, h, g, f)
  made_weighs (tree.Comma a b) = let h = made_weighs a in let g = made_weighs b in omega (arith, h, g)
  made_weighs (tree.Assign p kind t a) = let h = made_target t in let g = made_weighs a in omega (arith, h, g)
  made_weighs (tree.Update p kind t operator a) = let h = made_target t in let g = made_weighs a in omega (arith, h, g)
  made_weighs (tree.Step p kind t change new) = let h = made_target t in omega (arith, h)
  made_weighs (tree.Call p f xs) = let h = made_all xs in omega (arith, h)
  made_weighs (tree.Putchar p a) = let h = made_weighs a in omega (arith, h)
  made_weighs (tree.Exit p a) = let h = made_weighs a in omega (arith, h)
  made_weighs (tree.Abort p) = omega arith

  made_target : (t : Target) → most_made_for t ≤ weight_of_target 0 t
  made_target (tree.InVariable v) = omega arith
  made_target (tree.AtAddress checked a) = made_weighs a

  made_all : (xs : Expressions) → most_made_of_all xs ≤ weight_of_all 0 xs
  made_all tree.no_expressions = omega arith
  made_all (tree.expression_then a xs) = let h = made_weighs a in let g = made_all xs in omega (arith, h, g)

made_some : (e : Option Expression) → most_made_of_some e ≤ weight_of_some 0 e
made_some None = omega arith
made_some (Some e) = made_weighs e

made_items : (items : List Setting) → most_made_of_items items ≤ weight_of_items 0 items
made_items [] = omega arith
made_items (item ∷ items) = let h = made_weighs item.value in let g = made_items items in omega (arith, h, g)

made_pieces : (ps : List FormatPiece) → most_made_of_pieces ps ≤ weight_of_pieces 0 ps
made_pieces [] = omega arith
made_pieces (piece.Byte b ∷ ps) = let h = made_pieces ps in omega (arith, h)
made_pieces (piece.Word spelling k ∷ ps) = let h = made_pieces ps in omega (arith, h)
made_pieces (piece.String k ∷ ps) = let h = made_pieces ps in omega (arith, h)

mutual
  pub made_in : (t : Statements) → most_made_in t ≤ weight_in 0 t
  made_in tree.Done = omega arith
  made_in (tree.Evaluate p e k) = let h = made_weighs e in let g = made_in k in omega (arith, h, g)
  made_in (tree.Initialise p offset size items k) = let h = made_items items in let g = made_in k in omega (arith, h, g)
  made_in (tree.Print p xs pieces k) = let h = made_all xs in let f = made_pieces pieces in let g = made_in k in omega (arith, h, f, g)
  made_in (tree.If p e t u k) = let h = made_weighs e in let f = made_in t in let d = made_in u in let g = made_in k in omega (arith, h, f, d, g)
  made_in (tree.Loop p test body step k) = let h = made_some test in let f = made_in body in let d = made_some step in let g = made_in k in omega (arith, h, f, d, g)
  made_in (tree.Do p body test k) = let h = made_weighs test in let f = made_in body in let g = made_in k in omega (arith, h, f, g)
  made_in (tree.Switch p e arms k) = let h = made_weighs e in let f = made_arms arms in let g = made_in k in omega (arith, h, f, g)
  made_in (tree.Break p k) = let g = made_in k in omega (arith, g)
  made_in (tree.Continue p k) = let g = made_in k in omega (arith, g)
  made_in (tree.Return p e k) = let h = made_some e in let g = made_in k in omega (arith, h, g)

  made_arms : (arms : Arms) → most_made_in_arms arms ≤ weight_in_arms 0 arms
  made_arms tree.no_arms = omega arith
  made_arms (tree.arm_then labels t rest) = let h = made_in t in let g = made_arms rest in omega (arith, h, g)

-- ---- code

mutual
  code_weighs : (e : Expression) → most_code e ≤ 4 * weight 1 e
  code_weighs (tree.Number k) = omega arith
  code_weighs (tree.Address object offset) = omega arith
  code_weighs (tree.Frame p offset) = omega arith
  code_weighs (tree.Variable p v) = omega arith
  code_weighs (tree.Read p kind true a) = let h = code_weighs a in omega (arith, h)
  code_weighs (tree.Read p kind false a) = let h = code_weighs a in omega (arith, h)
  code_weighs (tree.Convert p kind a) = let h = code_weighs a in omega (arith, h)
  code_weighs (tree.Not p a) = let h = code_weighs a in omega (arith, h)
  code_weighs (tree.Binary p operator a b) = let h = code_weighs a in let g = code_weighs b in omega (arith, h, g)
  code_weighs (tree.Compare p comparison turned a b) = let h = code_weighs a in let g = code_weighs b in omega (arith, h, g)
  code_weighs (tree.And p a b) = let h = code_weighs a in let g = code_weighs b in omega (arith, h, g)
  code_weighs (tree.Or p a b) = let h = code_weighs a in let g = code_weighs b in omega (arith, h, g)
  code_weighs (tree.Conditional p a b d) = let h = code_weighs a in let g = code_weighs b in let f = code_weighs d in omega (arith, h, g, f)
  code_weighs (tree.Comma a b) = let h = code_weighs a in let g = code_weighs b in omega (arith, h, g)
  code_weighs (tree.Assign p kind t a) = let h = code_target t in let g = code_weighs a in omega (arith, h, g)
  code_weighs (tree.Update p kind t operator a) = let h = code_target t in let g = code_weighs a in omega (arith, h, g)
  code_weighs (tree.Step p kind t change new) = let h = code_target t in omega (arith, h)
  code_weighs (tree.Call p f xs) = let h = code_all xs in omega (arith, h)
  code_weighs (tree.Putchar p a) = let h = code_weighs a in omega (arith, h)
  code_weighs (tree.Exit p a) = let h = code_weighs a in omega (arith, h)
  code_weighs (tree.Abort p) = omega arith

  code_target : (t : Target) → most_code_for t ≤ 4 * weight_of_target 1 t
  code_target (tree.InVariable v) = omega arith
  code_target (tree.AtAddress checked a) = code_weighs a

  code_all : (xs : Expressions) → most_code_of_all xs ≤ 4 * weight_of_all 1 xs
  code_all tree.no_expressions = omega arith
  code_all (tree.expression_then a xs) = let h = code_weighs a in let g = code_all xs in omega (arith, h, g)

code_some : (e : Option Expression) → most_code_of_some e ≤ 4 * weight_of_some 1 e
code_some None = omega arith
code_some (Some e) = code_weighs e

code_items : (items : List Setting) → most_code_of_items items ≤ 4 * weight_of_items 1 items
code_items [] = omega arith
code_items (item ∷ items) = let h = code_weighs item.value in let g = code_items items in omega (arith, h, g)

code_pieces : (ps : List FormatPiece) → most_code_of_pieces ps ≤ 4 * weight_of_pieces 1 ps
code_pieces [] = omega arith
code_pieces (piece.Byte b ∷ ps) = let h = code_pieces ps in omega (arith, h)
code_pieces (piece.Word spelling k ∷ ps) = let h = code_pieces ps in omega (arith, h)
code_pieces (piece.String k ∷ ps) = let h = code_pieces ps in omega (arith, h)

mutual
  pub code_in : (t : Statements) → most_code_in t ≤ 4 * weight_in 1 t
  code_in tree.Done = omega arith
  code_in (tree.Evaluate p e k) = let h = code_weighs e in let g = code_in k in omega (arith, h, g)
  code_in (tree.Initialise p offset size items k) = let h = code_items items in let g = code_in k in omega (arith, h, g)
  code_in (tree.Print p xs pieces k) = let h = code_all xs in let f = code_pieces pieces in let g = code_in k in omega (arith, h, f, g)
  code_in (tree.If p e t u k) = let h = code_weighs e in let f = code_in t in let d = code_in u in let g = code_in k in omega (arith, h, f, d, g)
  code_in (tree.Loop p test body step k) = let h = code_some test in let f = code_in body in let d = code_some step in let g = code_in k in omega (arith, h, f, d, g)
  code_in (tree.Do p body test k) = let h = code_weighs test in let f = code_in body in let g = code_in k in omega (arith, h, f, g)
  code_in (tree.Switch p e arms k) = let h = code_weighs e in let f = code_arms arms in let g = code_in k in omega (arith, h, f, g)
  code_in (tree.Break p k) = let g = code_in k in omega (arith, g)
  code_in (tree.Continue p k) = let g = code_in k in omega (arith, g)
  code_in (tree.Return p e k) = let h = code_some e in let g = code_in k in omega (arith, h, g)

  code_arms : (arms : Arms) → most_code_in_arms arms ≤ 4 * weight_in_arms 1 arms
  code_arms tree.no_arms = omega arith
  code_arms (tree.arm_then labels t rest) = let h = code_in t in let g = code_arms rest in omega (arith, h, g)

-- ---- parameters

pub slots_made : (slots : List (Option FrameSlot)) → most_made_of_slots slots ≤ length slots
slots_made [] = omega arith
slots_made (None ∷ slots) = let h = slots_made slots in omega (arith, h)
slots_made (Some slot ∷ slots) = let h = slots_made slots in omega (arith, h)

pub slots_code : (slots : List (Option FrameSlot)) → most_code_of_slots slots ≤ 4 * length slots
slots_code [] = omega arith
slots_code (None ∷ slots) = let h = slots_code slots in omega (arith, h)
slots_code (Some slot ∷ slots) = let h = slots_code slots in omega (arith, h)
