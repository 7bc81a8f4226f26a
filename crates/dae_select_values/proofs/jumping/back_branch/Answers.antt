use Rattle.std.proofs.Common.{◌≡◌, ℕ, ◌+◌, true, List, [], ◌∷◌, ◌++◌, length, ap, sym, ◌∙◌, w32, FitsSigned, arith}
use Rattle.std.specs.Prelude.{ℤ}
use Rattle.std.proofs.lemmas.Int.{to_z-of_z, ints}
use Rattle.dae_encode.specs.declared.Inst.{Inst}
use Rattle.dae_select_values.specs.Tables.{home_by}
use Rattle.dae_select_blocks.specs.Blocks.{branch_inst, back_offset, goes_back}
use Rattle.dae_select_blocks.specs.Code.{branch_by, before_branch}
use Rattle.dae_select_blocks.proofs.LawsOfBlocks.{before_short}
use Rattle.dae_select_values.proofs.jumping.back_branch.Goals as goal

pub overflow_add-distance : goal.overflow_add-distance
overflow_add-distance c =
    let a = c.args in let H = home_by a.homes in
    let front = branch_by H (λ relation x y. []) a.branch true in
    let f = c.in_ok-compared.ensures in
    let items : c.branch_front.new.code.items ≡ front = f.front ∙ ap (λ (l : List Inst). l ++ front) c.new-block.ensures.items in
    let counted = c.len.ensures in let counts : c.len.result ≡ length c.branch_front.new.code.items = omega arith in
    let long : c.len.result ≡ before_branch H a.branch true = counts ∙ ap length items in
    let short = before_short H a.branch true in let few = c.requires.words in omega arith

pub back_offset-requires : goal.back_offset-requires
back_offset-requires c =
    let a = c.args in let H = home_by a.homes in
    let front = branch_by H (λ relation x y. []) a.branch true in
    let f = c.in_ok-compared.ensures in
    let items : c.branch_front.new.code.items ≡ front = f.front ∙ ap (λ (l : List Inst). l ++ front) c.new-block.ensures.items in
    let counted = c.len.ensures in let counts : c.len.result ≡ length c.branch_front.new.code.items = omega arith in
    let long : c.len.result ≡ before_branch H a.branch true = counts ∙ ap length items in
    let short = before_short H a.branch true in let few = c.requires.words in omega arith

pub returns : goal.returns
returns c =
    let a = c.args in let H = home_by a.homes in
    let front = branch_by H (λ relation x y. []) a.branch true in
    let f = c.in_ok-compared.ensures in
    let o = c.in_ok-compared.compared in
    let items : c.branch_front.new.code.items ≡ front = f.front ∙ ap (λ (l : List Inst). l ++ front) c.new-block.ensures.items in
    let counted = c.len.ensures in let counts : c.len.result ≡ length c.branch_front.new.code.items = omega arith in
    let long : c.len.result ≡ before_branch H a.branch true = counts ∙ ap length items in
    let far = a.words + before_branch H a.branch true in
    let small = c.back_offset.type_inv in let fits : FitsSigned w32 c.back_offset.result = first_of (omega (arith, ints), grind (arith, ints), search (arith, ints)) in
    let last : c.branch_inst.result ≡ branch_inst o.relation o.first o.second (back_offset far) =
    c.branch_inst.ensures ∙ ap (λ (z : ℤ). branch_inst o.relation o.first o.second z) (to_z-of_z w32 c.back_offset.result fits) ∙ ap (λ (z : ℤ). branch_inst o.relation o.first o.second z) (c.back_offset.ensures ∙ ap (λ (n : ℕ). back_offset (a.words + n)) long) in
    c.in_ok-push.ensures.items ∙ ap (λ (i : Inst). c.branch_front.new.code.items ++ i ∷ []) last ∙ ap (λ (l : List Inst). l ++ goes_back far o.relation o.first o.second) items
    ∙ sym (f.whole (goes_back far))
