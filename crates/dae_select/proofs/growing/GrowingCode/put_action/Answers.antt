use Rattle.std.proofs.Common.{◌≤◌, length, arith}
use Rattle.std.proofs.lemmas.List.Elements.{All-push}
use Rattle.dae_select.specs.declared.growing.PlacedWord.{PlacedWord}
use Rattle.dae_select.proofs.growing.GrowingCode.put_action.Goals as goal

pub invariant_of-self : goal.invariant_of-self
invariant_of-self c =
    let words = c.self.inside.backward.items in
    let l = c.len-word.ensures in
    rw c.in_ok-push.ensures.items
    (All-push (λ (p : PlacedWord). p.word ≤ length words) c.self.inside.places.items (record { word = c.len-word.result; place = c.args.place }) c.self.invariant (omega arith))
