-- What a processor answers where its move is granted, and where it is not.
use Rattle.std.proofs.Common.{◌≡◌, ℕ, Bool, true, false, cond, List, [], refl, ap, sym, ◌∙◌, subst}
use Rattle.std.specs.Prelude.{Option, Some, None, option_map}
use Rattle.dae_base.specs.declared.Side.{Side}
use Rattle.dae_base.specs.declared.Queue.{Queue}
use Rattle.dae_encode.specs.declared.InstructionForm.TheVariants.{Computes}
use Rattle.dae_encode.specs.declared.QueueUse.{QueueUse}
use Rattle.dae_encode.specs.declared.QueueUse.TheVariants.{Nothing, Take, Push, Load, StoreAddress}
use Rattle.dae_encode.specs.declared.Request.{Request}
use Rattle.dae_encode.specs.declared.Request.TheVariants.{Halted, Faulty, Asks}
use Rattle.dae_encode.specs.Instructions.{form}
use Rattle.dae_encode.specs.Processor.{Processor, After, early_fault, finish, put_word, request}
use Rattle.dae_core.specs.declared.CoreAnswer.{CoreAnswer}
use Rattle.dae_core.specs.declared.CoreAnswer.TheVariants.{Did}
use Rattle.dae_core.specs.declared.code.Legal.{Legal}
use Rattle.dae_core.specs.Codes.{asked}
use Rattle.dae_core.specs.Held.{HeldCore, IsSame}
use Rattle.dae_core.specs.Moves.{answered_by, finished, granted_by, offered_by, unprinted, waits, Came, Tells}

module _ {Q : Type 0} (ready : Q → QueueUse → Bool) (front : Q → Queue → Option ℕ) (after : Q → QueueUse → ℕ → Q) (side : Side) (p : Processor) (q : Q) where
  abbrev put : QueueUse → ℕ → After → After × Q
  put u w x = (x, after q u w)

  done_by : (u : QueueUse) (w : ℕ) (b : Bool) (o : Option After) (r : After × Q) → cond b (option_map (put u w) o) None ≡ Some r → cond b (finished o) (waits u) ≡ Did r.0.1
  done_by u w true None r e = cc
  done_by u w true (Some x) r e = let same : put u w x ≡ r = cc in ap (λ (z : After × Q). Did z.0.1) same
  done_by u w false o r e = cc

  -- a move that is granted is answered by what it prints
  pub answered_done : (asks : Request) (r : After × Q) → granted_by ready front after side p q asks ≡ Some r → answered_by ready front side p q asks ≡ Did r.0.1
  answered_done Halted r e = cc
  answered_done (Faulty fault) r e = cc
  answered_done (Asks u w i) r e = done_by u w (ready q u) (finish side p u i (form i) (offered_by front q u)) r e

  abbrev Refused : CoreAnswer → Option (After × Q) → Type 0
  Refused answer move = (unprinted answer ≡ answer) × Tells answer move p q p q

  not_by : (u : QueueUse) (w : ℕ) (b : Bool) (o : Option After) → ready q u ≡ b → ready q Nothing ≡ true → cond b (option_map (put u w) o) None ≡ None → Refused (cond b (finished o) (waits u)) (cond b (option_map (put u w) o) None)
  not_by u w true None h free e = (refl, (refl, refl, refl))
  not_by u w true (Some x) h free e = cc
  not_by Nothing w false o h free e = absurd (cc (h, free))
  not_by (Take k) w false o h free e = (refl, (refl, refl, refl))
  not_by (Push k) w false o h free e = (refl, (refl, refl, refl))
  not_by (Load k kind) w false o h free e = (refl, (refl, refl, refl))
  not_by (StoreAddress width) w false o h free e = (refl, (refl, refl, refl))

  -- a move that is not granted is answered by what keeps it
  pub answered_not : (asks : Request) → ready q Nothing ≡ true → granted_by ready front after side p q asks ≡ None → Refused (answered_by ready front side p q asks) (granted_by ready front after side p q asks)
  answered_not Halted free e = (refl, (refl, refl, refl))
  answered_not (Faulty fault) free e = (refl, (refl, refl, refl))
  answered_not (Asks u w i) free e = not_by u w (ready q u) (finish side p u i (form i) (offered_by front q u)) refl free e

  -- an instruction that only computes is granted
  pub plain_granted : (memory : ℕ) (l : Legal) (rd x y : ℕ) (p' : Processor) → ready q Nothing ≡ true → ((w : ℕ) → after q Nothing w ≡ q) → l.access ≡ Nothing → l.form ≡ Computes rd x y → l.form ≡ form l.inst → finish side p Nothing l.inst (Computes rd x y) 0 ≡ Some (p', []) → granted_by ready front after side p q (asked side memory p l) ≡ Some ((p', []), q)
  unfolding early_fault
  plain_granted memory l rd x y p' free stays access computes same came =
      let is : form l.inst ≡ Computes rd x y = sym same ∙ computes in
      let none : early_fault side memory p l.access l.form ≡ None = rw (access, computes) refl in
      rw (none, access, is, free, came, stays (put_word p Nothing l.inst l.form)) refl

-- a try that did a step
pub came_some : {Q : Type 0} (o : Option (List ℕ)) (piece : List ℕ) (move : Option (After × Q)) (p p' : Processor) (q q' : Q) → o ≡ Some piece → Came o move p q p' q' → move ≡ Some ((p', piece), q')
came_some o piece move p p' q q' e c = subst (λ (z : Option (List ℕ)). Came z move p q p' q') e c

pub came_none : {Q : Type 0} (o : Option (List ℕ)) (move : Option (After × Q)) (p p' : Processor) (q q' : Q) → o ≡ None → Came o move p q p' q' → (move ≡ None) × (p' ≡ p) × (q' ≡ q)
came_none o move p p' q q' e c = subst (λ (z : Option (List ℕ)). Came z move p q p' q') e c

-- what is seen behind a try that did none is what was there before it
module _ {Q : Type 0} (ready : Q → QueueUse → Bool) (front : Q → Queue → Option ℕ) (after : Q → QueueUse → ℕ → Q) (memory : ℕ) (c c' : HeldCore) (q q' : Q) where
  abbrev asks_of : HeldCore → Request
  asks_of k = request k.copies k.side k.code memory k.processor

  abbrev move_of : Option (After × Q)
  move_of = granted_by ready front after c.side c.processor q (asks_of c)

  pub looked : (answer : CoreAnswer) → ready q Nothing ≡ true → IsSame c c' → (move_of ≡ None) × (c'.processor ≡ c.processor) × (q' ≡ q) → answer ≡ unprinted (answered_by ready front c'.side c'.processor q' (asks_of c')) → (answer ≡ answered_by ready front c.side c.processor q (asks_of c)) × Tells answer move_of c.processor q c'.processor q'
  looked answer free same came seen =
      let refused = answered_not ready front after c.side c.processor q (asks_of c) free came.0 in
      let back : answered_by ready front c'.side c'.processor q' (asks_of c') ≡ answered_by ready front c.side c.processor q (asks_of c) = rw (same.side, same.copies, same.code, came.1, came.2) refl in
      let is : answer ≡ answered_by ready front c.side c.processor q (asks_of c) = seen ∙ ap unprinted back ∙ refused.0 in
      (is, rw (is, came.1, came.2) refused.1)
