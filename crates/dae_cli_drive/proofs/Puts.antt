-- How puts, and answers that are given, go together.
use Rattle.std.proofs.Common.{◌≡◌, ℕ, List, [], ◌∷◌, ◌++◌, refl, ap, sym, ◌∙◌, subst, append_assoc}
use Rattle.std.specs.Prelude.{Result, Ok, Err, OnErr}
use Rattle.dae_cli_drive.specs.Puts.{Put, Answer, answer, Sinks, IsMade, IsFailed, AreMade, AreCut, Gives, gives_whole, gives_part}

-- puts, and then more of them
pub made_then : (ps qs : List Put) (a b c : Sinks) → AreMade ps a b → AreMade qs b c → AreMade (ps ++ qs) a c
made_then [] qs a b c m n = subst (λ (x : Sinks). AreMade qs x c) m n
made_then (p ∷ ps) qs a b c m n = (m.0, m.1, made_then ps qs m.0 b c m.2 n)

-- puts, and then some of which one fails
pub cut_after : (ps qs : List Put) (a b c : Sinks) → AreMade ps a b → AreCut qs b c → AreCut (ps ++ qs) a c
cut_after ps qs a b c m cut = record {
  made = ps ++ cut.made;
  failed = cut.failed;
  left = cut.left;
  puts_are = ap (λ (l : List Put). ps ++ l) cut.puts_are ∙ sym (append_assoc ps cut.made (cut.failed ∷ cut.left));
  between = cut.between;
  are_made = made_then ps cut.made a b cut.between m cut.are_made;
  is_failed = cut.is_failed;
}

-- more puts would have come after one that failed
pub cut_more : (ps qs : List Put) (a b : Sinks) → AreCut ps a b → AreCut (ps ++ qs) a b
cut_more ps qs a b cut = record {
  made = cut.made;
  failed = cut.failed;
  left = cut.left ++ qs;
  puts_are = ap (λ (l : List Put). l ++ qs) cut.puts_are ∙ append_assoc cut.made (cut.failed ∷ cut.left) qs;
  between = cut.between;
  are_made = cut.are_made;
  is_failed = cut.is_failed;
}

-- the first put fails
pub cut_here : (p : Put) (ps : List Put) (a b : Sinks) → IsFailed p a b → AreCut (p ∷ ps) a b
cut_here p ps a b f = record { made = []; failed = p; left = ps; puts_are = refl; between = a; are_made = refl; is_failed = f }

-- a put, and then some of which one fails
pub cut_next : (p : Put) (ps : List Put) (a b c : Sinks) → IsMade p a b → AreCut ps b c → AreCut (p ∷ ps) a c
cut_next p ps a b c m cut = cut_after (p ∷ []) ps a b c (b, m, refl) cut

-- puts before an answer
pub gives_then : (ps qs : List Put) (due_status status : ℕ) (a b c : Sinks) → AreMade ps a b → Gives (answer due_status qs) status b c → Gives (answer due_status (ps ++ qs)) status a c
gives_then ps qs due_status status a b c m (gives_whole s w) = gives_whole s (made_then ps qs a b c m w)
gives_then ps qs due_status status a b c m (gives_part s cut) = gives_part s (cut_after ps qs a b c m cut)

-- one put before an answer
pub gives_next : (p : Put) (ps : List Put) (due_status status : ℕ) (a b c : Sinks) → IsMade p a b → Gives (answer due_status ps) status b c → Gives (answer due_status (p ∷ ps)) status a c
gives_next p ps due_status status a b c m g = gives_then (p ∷ []) ps due_status status a b c (b, m, refl) g

-- the first put of an answer fails
pub gives_failed : (p : Put) (ps : List Put) (due_status : ℕ) (a b : Sinks) → IsFailed p a b → Gives (answer due_status (p ∷ ps)) 6 a b
gives_failed p ps due_status a b f = gives_part refl (cut_here p ps a b f)

-- the same answer, written otherwise
pub gives_same : {x y : Answer} {status : ℕ} {a b : Sinks} → x ≡ y → Gives x status a b → Gives y status a b
gives_same {x} {y} {status} {a} {b} e g = subst (λ (z : Answer). Gives z status a b) e g

pub on_err : {T E : Type 0} (r : Result T E) (P : Type 0) → P → OnErr r P
on_err (Ok x) P p = tt
on_err (Err e) P p = p
