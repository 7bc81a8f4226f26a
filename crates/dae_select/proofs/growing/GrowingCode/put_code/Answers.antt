use Rattle.std.proofs.Common.{◌≡◌, ◌++◌, ◌∙◌, ap, length, reverse, arith}
use Rattle.dae_select.specs.Grown.{Grown, in_front}
use Rattle.dae_select.proofs.InFront.{put_front}
use Rattle.dae_select.proofs.Words.{counted, put_within}
use Rattle.dae_select.proofs.growing.GrowingCode.put_code.Goals as goal

pub add_places-requires : goal.add_places-requires
add_places-requires c =
    rw c.deref.ensures.value
    (counted c.len-behind.result (length c.code.inside.backward.items) c.code.inside.places.items (omega arith) (omega arith) c.code.invariant)

pub invariant_of-self-2 : goal.invariant_of-self-2
invariant_of-self-2 c =
    let is = c.self.inside.backward.items in let js = c.code.inside.backward.items in
    let long : c.len-behind.result ≡ length is = (let l = c.len-behind.ensures in omega arith) in
    rw c.in_ok-append.ensures.items
    (c.add_places.ensures.within (length (is ++ js)) (rw (c.deref.ensures.value, long) (put_within is js c.self.inside.places.items c.code.inside.places.items c.self.invariant c.code.invariant)))

pub invariant_of-self-in_err-add_places : goal.invariant_of-self-in_err-add_places
invariant_of-self-in_err-add_places c =
    let is = c.self.inside.backward.items in let js = c.code.inside.backward.items in
    let long : c.len-behind.result ≡ length is = (let l = c.len-behind.ensures in omega arith) in
    rw c.in_ok-append.ensures.items
    (c.add_places.ensures.within (length (is ++ js)) (rw (c.deref.ensures.value, long) (put_within is js c.self.inside.places.items c.code.inside.places.items c.self.invariant c.code.invariant)))

pub returns : goal.returns
returns c =
    let is = c.self.inside.backward.items in let js = c.code.inside.backward.items in
    let long : c.len-behind.result ≡ length is = (let l = c.len-behind.ensures in omega arith) in
    rw (c.in_ok-append.ensures.items, c.in_ok-add_places.ensures.added, c.deref.ensures.value, long) (put_front is js c.self.inside.places.items c.code.inside.places.items
    ∙ ap (λ (g : Grown). in_front g (record { code = reverse is; places = reverse c.self.inside.places.items })) c.code.view_is
    ∙ ap (λ (g : Grown). in_front c.args.code g) c.self.view_is)
