-- The private memories of a form's image, from those of its streams.
use Rattle.std.proofs.Common.{◌≡◌, ◌⊎◌, inl, inr, ℕ, ◌*◌, ◌^◌, ◌≤◌, ◌<◌, Bool, true, false, List, subst, arith}
use Rattle.dae_image.specs.declared.Image.{Image}
use Rattle.dae_ir.specs.Classes.{classes_of}
use Rattle.dae_ir.specs.Programs.{IsStreamOf, IsPairOf}
use Rattle.dae_ir.specs.Scope.{IsScoped}
use Rattle.dae_ir.specs.declared.form.Ir.{Ir}
use Rattle.dae_ir.specs.declared.stream.Class.{Class}
use Rattle.dae_ir.specs.declared.stream.Pair.{Pair}
use Rattle.dae_ir.specs.declared.stream.Stream.{Stream}
use Rattle.dae_select_walks.specs.Homes.{frame_words}
use Rattle.dae_link.specs.Settled.{IsTooDeep, IsPrivateWithin}
use Rattle.dae_link.specs.Linked.{HasPrivateWithin, HasTooDeep}
use Rattle.dae_compile.specs.Generated.{HaveAtMost, HasFramesWithin, NeedsTooMuch}
use Rattle.dae_compile.proofs.Own.{stream_at_most}

four_times : (bytes words most : ℕ) → bytes ≡ 4 * words → words ≤ most → bytes ≤ 4 * most
four_times bytes words most four low = omega (arith, four, low)

module _ (ir : Ir) (tables : List (List Class)) (cap : ℕ) (scoped : IsScoped ir) where
  words_within : (by_a : Bool) (s : Stream) → IsStreamOf by_a (classes_of tables) cap ir s → (bytes words : ℕ) → bytes ≡ 4 * words → IsPrivateWithin s words → (n : ℕ) → HaveAtMost n ir → bytes ≤ 4 * (ir.calls * frame_words n)
  words_within by_a s is bytes words four within n few =
      let low = within n (stream_at_most n ir by_a (classes_of tables) cap s scoped few is) in
      four_times bytes words (ir.calls * frame_words n) four (subst (λ (k : ℕ). words ≤ k * frame_words n) is.calls low)

  pub private_within : (pair : Pair) (image : Image) → IsPairOf ir tables cap pair → HasPrivateWithin pair image → HasFramesWithin ir image
  private_within pair image is h = record {
    a = words_within true pair.a is.a image.private_a h.a.0 h.a.1 h.a.2;
    e = words_within false pair.e is.e image.private_e h.e.0 h.e.1 h.e.2;
  }

  stream_deep : (by_a : Bool) (s : Stream) → IsStreamOf by_a (classes_of tables) cap ir s → IsTooDeep s → NeedsTooMuch ir
  stream_deep by_a s is deep n few =
      subst (λ (k : ℕ). (2 ^ 26 ≤ frame_words n) ⊎ (2 ^ 28 < k * frame_words n)) is.calls (deep n (stream_at_most n ir by_a (classes_of tables) cap s scoped few is))

  pub needs_too_much : (pair : Pair) → IsPairOf ir tables cap pair → HasTooDeep pair → NeedsTooMuch ir
  needs_too_much pair is (inl deep) = stream_deep true pair.a is.a deep
  needs_too_much pair is (inr deep) = stream_deep false pair.e is.e deep
