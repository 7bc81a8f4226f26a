-- Puts on note, and more of them behind.
use Rattle.std.proofs.Common.{List, [], ◌∷◌, ◌++◌, ℕ, refl}
use Rattle.std.specs.Prelude.{Result, Ok, Err, OnErr, OnOk}
use Rattle.dae_io.specs.Sinks.{SinkState, IsPut, IsPutFailed}
use Rattle.dae_cli_drive.specs.Puts.{AreNoted, AreNotedInPart, Note, Put, sinks}
use Rattle.dae_cli_drive.proofs.Laws.{cut_after, cut_here, cut_more, cut_next, made_then}

pub on_ok_then : {T E : Type 0} (r : Result T E) (P Q : Type 0) → (P → Q) → OnOk r P → OnOk r Q
on_ok_then (Ok x) P Q f p = f p
on_ok_then (Err e) P Q f p = tt

pub on_err_then : {T E : Type 0} (r : Result T E) (P Q : Type 0) → (P → Q) → OnErr r P → OnErr r Q
on_err_then (Ok x) P Q f p = tt
on_err_then (Err e) P Q f p = f p

pub noted_then : (ps qs : List Put) (n m o : SinkState) → AreNoted ps n m → AreNoted qs m o → AreNoted (ps ++ qs) n o
noted_then ps qs n m o a b = λ out. made_then ps qs (sinks out n) (sinks out m) (sinks out o) (a out) (b out)

pub noted_in_part : (ps qs : List Put) (n m o : SinkState) → AreNoted ps n m → AreNotedInPart qs m o → AreNotedInPart (ps ++ qs) n o
noted_in_part ps qs n m o a b = λ out. cut_after ps qs (sinks out n) (sinks out m) (sinks out o) (a out) (b out)

pub noted_no_more : (ps qs : List Put) (n m : SinkState) → AreNotedInPart ps n m → AreNotedInPart (ps ++ qs) n m
noted_no_more ps qs n m a = λ out. cut_more ps qs (sinks out n) (sinks out m) (a out)

-- three lines, of which the first, the second or the third isn't put; or all are
module _ (x y z : List ℕ) (n m o p : SinkState) where
  pub first_failed : IsPutFailed x n m → AreNotedInPart (Note x ∷ (Note y ∷ (Note z ∷ []))) n m
  first_failed f = λ out. cut_here (Note x) (Note y ∷ (Note z ∷ [])) (sinks out n) (sinks out m) (f, refl)

  pub second_failed : IsPut x n m → IsPutFailed y m o → AreNotedInPart (Note x ∷ (Note y ∷ (Note z ∷ []))) n o
  second_failed a f = λ out. cut_next (Note x) (Note y ∷ (Note z ∷ [])) (sinks out n) (sinks out m) (sinks out o) (a, refl) (cut_here (Note y) (Note z ∷ []) (sinks out m) (sinks out o) (f, refl))

  pub third_failed : IsPut x n m → IsPut y m o → IsPutFailed z o p → AreNotedInPart (Note x ∷ (Note y ∷ (Note z ∷ []))) n p
  third_failed a b f = λ out. cut_next (Note x) (Note y ∷ (Note z ∷ [])) (sinks out n) (sinks out m) (sinks out p) (a, refl) (cut_next (Note y) (Note z ∷ []) (sinks out m) (sinks out o) (sinks out p) (b, refl) (cut_here (Note z) [] (sinks out o) (sinks out p) (f, refl)))

  pub all_noted : IsPut x n m → IsPut y m o → IsPut z o p → AreNoted (Note x ∷ (Note y ∷ (Note z ∷ []))) n p
  all_noted a b c = λ out. (sinks out m, (a, refl), (sinks out o, (b, refl), (sinks out p, (c, refl), refl)))
