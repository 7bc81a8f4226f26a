use Rattle.std.proofs.Common.{◌≡◌, true, false, map, refl, ap, sym, ◌∙◌}
use Rattle.std.proofs.lemmas.Result.{IfOk-weaker}
use Rattle.dae_ir.specs.Streams.{actions_of}
use Rattle.dae_select_blocks.specs.Sizes.{is_leaf}
use Rattle.dae_link.specs.Settled.{mirrored_home}
use Rattle.dae_link.proofs.homes.own_homes.Goals as goal

pub returns-then-is_leaf_function : goal.returns-then-is_leaf_function
returns-then-is_leaf_function c =
    let e : is_leaf (actions_of c.args.function.now.body) ≡ true = sym c.is_leaf_function.ensures ∙ c.if-is_leaf_function.true in
    IfOk-weaker c.mirrored_homes.result _ _ (λ own h. rw e (h ∙ ap (map mirrored_home) c.as_slice.ensures.value)) c.mirrored_homes.ensures

pub returns : goal.returns
returns c =
    let e : is_leaf (actions_of c.args.function.now.body) ≡ false = sym c.is_leaf_function.ensures ∙ c.if-is_leaf_function.false in rw e refl
