-- A's part of a group, on the queues.
use Rattle.std.proofs.Common.{◌≡◌, ℕ, suc, ◌+◌, ◌*◌, ◌<◌, ◌≤◌, Bool, true, false, not, ◌&&◌, ◌||◌, nat_eq, List, [], ◌∷◌, ◌++◌, length, Option, Some, None, if◌then◌else◌, refl, ap, sym, ◌∙◌, subst, append_assoc, append-nil, length-append, arith}
use Rattle.std.specs.Prelude.{nat_lt}
use Rattle.std.proofs.lemmas.Bool.Decides.{nat_tests}
use Rattle.std.proofs.lemmas.Bool.{lt-ltb}
use Rattle.dae_base.specs.declared.Depths.{Depths}
use Rattle.dae_base.specs.declared.LoadKind.{LoadKind}
use Rattle.dae_base.specs.declared.Queue.TheVariants.{Ld, Ab}
use Rattle.dae_base.specs.Words.{loaded, width_of}
use Rattle.dae_core.specs.Queues.{Queues}
use Rattle.dae_machine.specs.Machine.{Setup}
use Rattle.dae_meaning.specs.Worlds.{World, ticked, fetched}
use Rattle.dae_ir.specs.Code.{Do}
use Rattle.dae_meaning.specs.Operations.{misplaced}
use Rattle.dae_meaning.specs.Variables.{Env, put}
use Rattle.dae_ir.specs.Form.{Program, value, computed, fault}
use Rattle.dae_ir.specs.Classes.{Classes}
use Rattle.dae_ir.specs.Rounds.{is_for_e, is_copied, how_many}
use Rattle.dae_ir.specs.Canonical.{is_issued, Access, Passed, Failed, Strayed, with_word, with_copy, unless, reached, access}
use Rattle.dae_ir.specs.Streams.{Actions, mark, when, a_part, parts}
use Rattle.dae_ir.specs.Deeds.{Plainly, deed}
use Rattle.dae_ir.specs.declared.form.Operand.{Operand}
use Rattle.dae_ir.specs.declared.form.Value.{Value}
use Rattle.dae_ir.specs.declared.form.Check.{Check}
use Rattle.dae_ir.specs.declared.stream.Mark.{Mark}
use Rattle.dae_ir.specs.declared.stream.Part.{Part}
use Rattle.dae_ir.specs.declared.stream.Part.TheVariants.{Sets, Loads as Load', Tests}
use Rattle.dae_ir.specs.declared.stream.Action.TheVariants.{Set, Issue, Own, Offer, Probe}
use Rattle.dae_ir_pair.specs.Budget.{is_own_part, is_test, any_part}
use Rattle.dae_machine.specs.Uses.{Pushes, Reserves}
use Rattle.dae_machine_rounds.specs.Follows.{Leaves, Quits, Follows, went, takes, pushes, reserves, halts}
use Rattle.dae_machine_rounds.specs.Spots.{Behind, HeldCall, Spot, Arrives, Halted, point, spot, acts}
use Rattle.dae_machine.specs.Walks.{ends, grants, owns}
use Rattle.dae_machine_rounds.proofs.Does.{Does, here, stops}
use Rattle.dae_machine_rounds.proofs.Both.{does_to, does_both, does_one}
use Rattle.dae_machine_rounds.proofs.Worlds.{Like, like_itself, like_ticked, like_fetched, LoadsWords, fault_code}
use Rattle.dae_machine_rounds.proofs.Slots.{Counts, Loads, sending, waiting_slots, waiting_count, words_for, words_for-append, reserved_is, owned, own_filled}

-- there is room for what the parts send, behind so many loads and copies
pub record HasRoom (c : Classes) (d : Depths) (loads copies : ℕ) (g : List Part) : Type 0 where
  pub ld : loads + how_many (is_for_e c) g ≤ d.ld
  pub cq : copies + how_many (is_copied c) g ≤ d.cq
  pub al : any_part (is_own_part c) g ≡ true → 1 ≤ d.al
  pub ab : any_part is_test g ≡ true → 1 ≤ d.ab

abbrev pub with_al : ℕ → ℕ → Counts → Counts
with_al t r c = record c { al_taken = t; al_reserved = r }

module _ (setup : Setup) (p : Program) (body : ℕ → Actions) (k : Actions) (b : Behind) (calls : List HeldCall) where
  abbrev at_code : Actions → Env → World → Spot
  at_code code env u = spot (point code b) env u calls

  -- A's part has passed: more loads for E, and copies, were sent
  pub record Passes (n : ℕ) (s : Spot) (x : Counts) (ls : Loads) (cq : List ℕ) (u : World) (env : Env) (words copies : List ℕ) (u' : World) : Type 0 where
    pub more : Loads
    pub are : words_for u.memory more ≡ words
    pub al_taken : ℕ
    pub al_reserved : ℕ
    pub moves : ℕ
    pub fills : ℕ
    pub least : ℕ
    pub does : Does setup p true body u.memory moves fills least s (sending x ls [] [] cq) [] (Arrives (at_code k env u')) (sending (with_al al_taken al_reserved x) (ls ++ more) [] [] (cq ++ copies))
    pub like : Like u u'
    pub cost : moves + fills + length more + 3 * u.items ≤ 3 * u'.items
    pub all : u.items + n ≤ u'.items

  -- a check has failed: its code is pushed, and A has halted
  pub record Fails (s : Spot) (x : Counts) (ls : Loads) (cq : List ℕ) (u : World) (code : ℕ) (u' : World) : Type 0 where
    pub more : Loads
    pub copies : List ℕ
    pub al_taken : ℕ
    pub al_reserved : ℕ
    pub moves : ℕ
    pub fills : ℕ
    pub least : ℕ
    pub does : Does setup p true body u.memory moves fills least s (sending x ls [] [] cq) [] (Halted Plainly) (sending (with_al al_taken al_reserved x) (ls ++ more) [] (code ∷ []) (cq ++ copies))
    pub like : Like u u'
    pub cost : moves + fills + length more + 3 * u.items ≤ 3 * u'.items
    pub trap : nat_eq code 0 ≡ false
    pub all : u.items + 1 ≤ u'.items

  -- of so many parts
  abbrev pub Comes : ℕ → Spot → Counts → Loads → List ℕ → World → Access → Type 0
  Comes n s x ls cq u (Passed env words copies u') = Passes n s x ls cq u env words copies u'
  Comes n s x ls cq u (Failed code u') = Fails s x ls cq u code u'
  Comes n s x ls cq u (Strayed u') = Unit {0}

  -- with these loads and copies before its own
  abbrev added : List ℕ → Loads → List ℕ → Access → Access
  added m l c (Passed env words copies u) = Passed env (words_for m l ++ words) (c ++ copies) u
  added m l c (Failed code u) = Failed code u
  added m l c (Strayed u) = Strayed u

  grown : (x x2 : Counts) (ls ls2 l2 : Loads) (ab cq cq2 c2 : List ℕ) → ((t r : ℕ) → with_al t r x2 ≡ with_al t r x) → ((zs : Loads) → ls2 ++ zs ≡ ls ++ (l2 ++ zs)) → ((zs : List ℕ) → cq2 ++ zs ≡ cq ++ (c2 ++ zs)) → (t r : ℕ) (more : Loads) (copies : List ℕ)
      → sending (with_al t r x2) (ls2 ++ more) [] ab (cq2 ++ copies) ≡ sending (with_al t r x) (ls ++ (l2 ++ more)) [] ab (cq ++ (c2 ++ copies))
  grown x x2 ls ls2 l2 ab cq cq2 c2 same h k t r more copies =
      ap (λ (z : Counts). sending z (ls2 ++ more) [] ab (cq2 ++ copies)) (same t r)
      ∙ (ap (λ (z : Loads). sending (with_al t r x) z [] ab (cq2 ++ copies)) (h more) ∙ ap (λ (z : List ℕ). sending (with_al t r x) (ls ++ (l2 ++ more)) [] ab z) (k copies))

  extend : (n : ℕ) (s s2 : Spot) (x x2 : Counts) (ls ls2 l2 : Loads) (cq cq2 c2 : List ℕ) (u : World) (flag : Bool) (r : Access) {a f l : ℕ} → ((t r : ℕ) → with_al t r x2 ≡ with_al t r x) → ((zs : Loads) → ls2 ++ zs ≡ ls ++ (l2 ++ zs)) → ((zs : List ℕ) → cq2 ++ zs ≡ cq ++ (c2 ++ zs))
      → Does setup p true body u.memory a f l s (sending x ls [] [] cq) [] (Arrives s2) (sending x2 ls2 [] [] cq2) → a + f + length l2 ≤ 3 → Comes n s2 x2 ls2 cq2 (fetched flag u) r → Comes (suc n) s x ls cq u (added u.memory l2 c2 r)
  extend n s s2 x x2 ls ls2 l2 cq cq2 c2 u flag (Passed env words copies u') same h k pre few y =
      let cost = y.cost in
      let long = length-append l2 y.more in
      record {
        more = l2 ++ y.more;
        are = words_for-append u.memory l2 y.more ∙ ap (λ ws. words_for u.memory l2 ++ ws) y.are;
        al_taken = y.al_taken;
        al_reserved = y.al_reserved;
        moves = _;
        fills = _;
        least = _;
        does = does_to (grown x x2 ls ls2 l2 [] cq cq2 c2 same h k y.al_taken y.al_reserved y.more copies) (does_both pre y.does);
        like = like_fetched u u' flag y.like;
        cost = omega arith;
        all = (let all = y.all in omega arith);
      }
  extend n s s2 x x2 ls ls2 l2 cq cq2 c2 u flag (Failed code u') same h k pre few y =
      let cost = y.cost in
      let long = length-append l2 y.more in
      record {
        more = l2 ++ y.more;
        copies = c2 ++ y.copies;
        al_taken = y.al_taken;
        al_reserved = y.al_reserved;
        moves = _;
        fills = _;
        least = _;
        does = does_to (grown x x2 ls ls2 l2 (code ∷ []) cq cq2 c2 same h k y.al_taken y.al_reserved y.more y.copies) (does_both pre y.does);
        like = like_fetched u u' flag y.like;
        cost = omega arith;
        trap = y.trap;
        all = (let all = y.all in omega arith);
      }
  extend n s s2 x x2 ls ls2 l2 cq cq2 c2 u flag (Strayed u') same h k pre few y = tt

  -- ---- one action

  set_does : (m : List ℕ) (at : Mark) (v : ℕ) (x : Value) (next : Actions) (env : Env) (u : World) (q : Queues) → length u.memory ≡ setup.memory
      → Does setup p true body m 1 0 0 (at_code (Do at (Set v x) next) env u) q [] (Arrives (at_code next (put true v (computed x u.frame env) env) u)) q
  set_does m at v x next env u q size = does_one (acts u refl size went) ends tt

  issue_does : (m : List ℕ) (at : Mark) (kind : LoadKind) (x : Operand) (next : Actions) (env : Env) (u : World) (c : Counts) (ls : Loads) (cq : List ℕ) → length u.memory ≡ setup.memory → misplaced (width_of kind) (value x env) setup.memory ≡ None → length ls < setup.depths.ld
      → Does setup p true body m 1 0 0 (at_code (Do at (Issue kind x) next) env u) (sending c ls [] [] cq) [] (Arrives (at_code next env u)) (sending c (ls ++ (kind, value x env) ∷ []) [] [] cq)
  issue_does m at kind x next env u c ls cq size good room =
      let can : nat_lt (length (waiting_slots c.ld_reserved c.issued ls)) setup.depths.ld ≡ true = rw (waiting_count c.ld_reserved c.issued ls) (lt-ltb (length ls) setup.depths.ld room) in
      let a = value x env in
      let follows : Follows (deed p true (Issue kind x) u env) (Reserves Ld kind a ∷ []) (Leaves env) = reserves went in
      does_to (reserved_is c ls cq kind a) (does_one {m = m} (acts u refl size follows) (grants {q = sending c ls [] [] cq} can refl ends) (good, tt))

  own_does : (m : List ℕ) (at : Mark) (v : ℕ) (kind : LoadKind) (x : Operand) (next : Actions) (env : Env) (u : World) (c : Counts) (ls : Loads) (cq : List ℕ) → length u.memory ≡ setup.memory → misplaced (width_of kind) (value x env) setup.memory ≡ None → 0 < setup.depths.al → LoadsWords m
      → Does setup p true body m 1 1 0 (at_code (Do at (Own v kind x) next) env u) (sending c ls [] [] cq) [] (Arrives (at_code next (put true v (loaded kind (value x env) m) env) u)) (sending (owned c) ls [] [] cq)
  own_does m at v kind x next env u c ls cq size good room words =
      let a = value x env in
      let can : nat_lt 0 setup.depths.al ≡ true = lt-ltb 0 setup.depths.al room in
      does_one (acts u refl size (reserves (takes (loaded kind a m) went))) (owns {q = sending c ls [] [] cq} c.al_reserved can (own_filled c ls cq m kind a) (grants refl refl ends)) (good, (words kind a, tt))

  offer_does : (m : List ℕ) (at : Mark) (v : ℕ) (next : Actions) (env : Env) (u : World) (c : Counts) (ls : Loads) (cq : List ℕ) → length u.memory ≡ setup.memory → length cq < setup.depths.cq
      → Does setup p true body m 1 0 0 (at_code (Do at (Offer v) next) env u) (sending c ls [] [] cq) [] (Arrives (at_code next env u)) (sending c ls [] [] (cq ++ env v ∷ []))
  offer_does m at v next env u c ls cq size room =
      does_one (acts u refl size (pushes went)) (grants {q = sending c ls [] [] cq} (lt-ltb (length cq) setup.depths.cq room) refl ends) (tt, tt)

  passes_does : (m : List ℕ) (at : Mark) (check : Check) (next : Actions) (env : Env) (u : World) (q : Queues) → length u.memory ≡ setup.memory → fault p check u env ≡ None
      → Does setup p true body m 1 0 0 (at_code (Do at (Probe check) next) env u) q [] (Arrives (at_code next env u)) q
  passes_does m at check next env u q size e =
      let follows : Follows (deed p true (Probe check) u env) [] (Leaves env) = rw e went in
      does_one (acts u refl size follows) ends tt

  fails_does : (m : List ℕ) (at : Mark) (check : Check) (next : Actions) (env : Env) (u : World) (c : Counts) (ls : Loads) (cq : List ℕ) (code : ℕ) → length u.memory ≡ setup.memory → fault p check u env ≡ Some code → 0 < setup.depths.ab
      → Does setup p true body m 1 0 0 (at_code (Do at (Probe check) next) env u) (sending c ls [] [] cq) [] (Halted Plainly) (sending c ls [] (code ∷ []) cq)
  fails_does m at check next env u c ls cq code size e room =
      let follows : Follows (deed p true (Probe check) u env) (Pushes Ab code ∷ []) (Quits Plainly) = rw e (pushes halts) in
      stops (acts u refl size follows) (grants {q = sending c ls [] [] cq} (lt-ltb 0 setup.depths.ab room) refl ends) (tt, tt)

  -- ---- the parts

  put_now : (v x : ℕ) (env : Env) → put true v x env v ≡ x
  put_now v x env = by (nat_eq v v) refl where
    by : (b : Bool) → nat_eq v v ≡ b → (if (true && b) then x else env v) ≡ x
    by true e = refl
    by false e = absurd (grind (arith, nat_tests))

  added_copy : (m : List ℕ) (y z : ℕ) (r : Access) → z ≡ y → added m [] (z ∷ []) r ≡ with_copy true y r
  added_copy m y z (Passed env words copies u) e = ap (λ (x : ℕ). Passed env words (x ∷ copies) u) e
  added_copy m y z (Failed code u) e = refl
  added_copy m y z (Strayed u) e = refl

  added_word : (m : List ℕ) (kind : LoadKind) (a : ℕ) (y : ℕ) (r : Access) → added m ((kind, a) ∷ []) [] r ≡ with_word true (loaded kind a m) (with_copy false y r)
  added_word m kind a y (Passed env words copies u) = refl
  added_word m kind a y (Failed code u) = refl
  added_word m kind a y (Strayed u) = refl

  added_nothing : (m : List ℕ) (y : ℕ) (r : Access) → added m [] [] r ≡ with_copy false y r
  added_nothing m y (Passed env words copies u) = refl
  added_nothing m y (Failed code u) = refl
  added_nothing m y (Strayed u) = refl

  no_word : (y : ℕ) (r : Access) → with_word false y r ≡ r
  no_word y (Passed env words copies u) = refl
  no_word y (Failed code u) = refl
  no_word y (Strayed u) = refl

  module _ (c : Classes) (n : ℕ) where
    -- what is to be shown of the parts, behind others
    abbrev pub Part_comes : List Part → World → Type 0
    Part_comes g u = (env : Env) (x : Counts) (ls : Loads) (cq : List ℕ) → length u.memory ≡ setup.memory → LoadsWords u.memory → HasRoom c setup.depths (length ls) (length cq) g
        → Comes (length g) (at_code (parts (a_part c n) g k) env u) x ls cq u (access p c g u env)

    sets_come : (g : List Part) (u : World) → Part_comes g (ticked u) → (at : Mark) (v : ℕ) (x : Value) (env : Env) (q : Counts) (ls : Loads) (cq : List ℕ) → length u.memory ≡ setup.memory → LoadsWords u.memory → (s e : Bool)
        → length ls + how_many (is_for_e c) g ≤ setup.depths.ld → length cq + ((if s && e then 1 else 0) + how_many (is_copied c) g) ≤ setup.depths.cq → (any_part (is_own_part c) g ≡ true → 1 ≤ setup.depths.al) → (any_part is_test g ≡ true → 1 ≤ setup.depths.ab)
        → Comes (suc (length g)) (at_code (when s at (Set v x) (when (s && e) at (Offer v) (parts (a_part c n) g k))) env u) q ls cq u (with_copy (s && e) (computed x u.frame env) (access p c g (ticked u) (put s v (computed x u.frame env) env)))
    sets_come g u ih at v x env q ls cq size words true true ld room al ab =
        let y = computed x u.frame env in
        let env' = put true v y env in
        let r = access p c g (ticked u) env' in
        let next = parts (a_part c n) g k in
        let grown : length (cq ++ env' v ∷ []) ≡ length cq + 1 = length-append cq (env' v ∷ []) in
        subst (λ (z : Access). Comes (suc (length g)) (at_code (Do at (Set v x) (Do at (Offer v) next)) env u) q ls cq u z) (added_copy u.memory y (env' v) r (put_now v y env))
        (extend (length g) _ (at_code next env' u) q q ls ls [] cq (cq ++ env' v ∷ []) (env' v ∷ []) u false r (λ t r. refl) (λ zs. refl) (λ zs. append_assoc cq (env' v ∷ []) zs)
        (does_both (set_does u.memory at v x (Do at (Offer v) next) env u (sending q ls [] [] cq) size) (offer_does u.memory at v next env' u q ls cq size (omega arith))) (omega arith)
        (ih env' q ls (cq ++ env' v ∷ []) size words (record { ld = ld; cq = omega arith; al = al; ab = ab })))
    sets_come g u ih at v x env q ls cq size words true false ld room al ab =
        let y = computed x u.frame env in
        let env' = put true v y env in
        let r = access p c g (ticked u) env' in
        let next = parts (a_part c n) g k in
        subst (λ (z : Access). Comes (suc (length g)) (at_code (Do at (Set v x) next) env u) q ls cq u z) (added_nothing u.memory y r)
        (extend (length g) _ (at_code next env' u) q q ls ls [] cq cq [] u false r (λ t r. refl) (λ zs. refl) (λ zs. refl)
        (set_does u.memory at v x next env u (sending q ls [] [] cq) size) (omega arith)
        (ih env' q ls cq size words (record { ld = ld; cq = omega arith; al = al; ab = ab })))
    sets_come g u ih at v x env q ls cq size words false e ld room al ab =
        let y = computed x u.frame env in
        let r = access p c g (ticked u) env in
        let next = parts (a_part c n) g k in
        subst (λ (z : Access). Comes (suc (length g)) (at_code next env u) q ls cq u z) (added_nothing u.memory y r)
        (extend (length g) _ (at_code next env u) q q ls ls [] cq cq [] u false r (λ t r. refl) (λ zs. refl) (λ zs. refl) here (omega arith)
        (ih env q ls cq size words (record { ld = ld; cq = omega arith; al = al; ab = ab })))

    loads_come : (g : List Part) (u : World) (flag : Bool) → Part_comes g (fetched flag u) → (at : Mark) (v : ℕ) (kind : LoadKind) (x : Operand) (env : Env) (q : Counts) (ls : Loads) (cq : List ℕ) → length u.memory ≡ setup.memory → LoadsWords u.memory → (o : Option ℕ) → misplaced (width_of kind) (value x env) (length u.memory) ≡ o → (s e : Bool)
        → length ls + ((if not s && e then 1 else 0) + how_many (is_for_e c) g) ≤ setup.depths.ld → length cq + ((if s && e then 1 else 0) + how_many (is_copied c) g) ≤ setup.depths.cq → (s || any_part (is_own_part c) g ≡ true → 1 ≤ setup.depths.al) → (any_part is_test g ≡ true → 1 ≤ setup.depths.ab)
        → Comes (suc (length g)) (at_code (when (not s && e) at (Issue kind x) (when s at (Own v kind x) (when (s && e) at (Offer v) (parts (a_part c n) g k)))) env u) q ls cq u
        (reached o u (with_word (not s && e) (loaded kind (value x env) u.memory) (with_copy (s && e) (loaded kind (value x env) u.memory) (access p c g (fetched flag u) (put s v (loaded kind (value x env) u.memory) env)))))
    loads_come g u flag ih at v kind x env q ls cq size words (Some code) good s e ld room al ab = tt
    loads_come g u flag ih at v kind x env q ls cq size words None good true true ld room al ab =
        let a = value x env in
        let y = loaded kind a u.memory in
        let env' = put true v y env in
        let r = access p c g (fetched flag u) env' in
        let next = parts (a_part c n) g k in
        let fit : misplaced (width_of kind) a setup.memory ≡ None = rw (← size) good in
        let own = al refl in
        let grown : length (cq ++ env' v ∷ []) ≡ length cq + 1 = length-append cq (env' v ∷ []) in
        subst (λ (z : Access). Comes (suc (length g)) (at_code (Do at (Own v kind x) (Do at (Offer v) next)) env u) q ls cq u z) (added_copy u.memory y (env' v) r (put_now v y env) ∙ sym (no_word y (with_copy true y r)))
        (extend (length g) _ (at_code next env' u) q (owned q) ls ls [] cq (cq ++ env' v ∷ []) (env' v ∷ []) u flag r (λ t r. refl) (λ zs. refl) (λ zs. append_assoc cq (env' v ∷ []) zs)
        (does_both (own_does u.memory at v kind x (Do at (Offer v) next) env u q ls cq size fit (omega arith) words) (offer_does u.memory at v next env' u (owned q) ls cq size (omega arith))) (omega arith)
        (ih env' (owned q) ls (cq ++ env' v ∷ []) size words (record { ld = omega arith; cq = omega arith; al = λ h. own; ab = ab })))
    loads_come g u flag ih at v kind x env q ls cq size words None good true false ld room al ab =
        let a = value x env in
        let y = loaded kind a u.memory in
        let env' = put true v y env in
        let r = access p c g (fetched flag u) env' in
        let next = parts (a_part c n) g k in
        let fit : misplaced (width_of kind) a setup.memory ≡ None = rw (← size) good in
        let own = al refl in
        subst (λ (z : Access). Comes (suc (length g)) (at_code (Do at (Own v kind x) next) env u) q ls cq u z) (added_nothing u.memory y r ∙ sym (no_word y (with_copy false y r)))
        (extend (length g) _ (at_code next env' u) q (owned q) ls ls [] cq cq [] u flag r (λ t r. refl) (λ zs. refl) (λ zs. refl)
        (own_does u.memory at v kind x next env u q ls cq size fit (omega arith) words) (omega arith)
        (ih env' (owned q) ls cq size words (record { ld = omega arith; cq = omega arith; al = λ h. own; ab = ab })))
    loads_come g u flag ih at v kind x env q ls cq size words None good false true ld room al ab =
        let a = value x env in
        let y = loaded kind a u.memory in
        let r = access p c g (fetched flag u) env in
        let next = parts (a_part c n) g k in
        let fit : misplaced (width_of kind) a setup.memory ≡ None = rw (← size) good in
        let grown : length (ls ++ (kind, a) ∷ []) ≡ length ls + 1 = length-append ls ((kind, a) ∷ []) in
        subst (λ (z : Access). Comes (suc (length g)) (at_code (Do at (Issue kind x) next) env u) q ls cq u z) (added_word u.memory kind a y r)
        (extend (length g) _ (at_code next env u) q q ls (ls ++ (kind, a) ∷ []) ((kind, a) ∷ []) cq cq [] u flag r (λ t r. refl) (λ zs. append_assoc ls ((kind, a) ∷ []) zs) (λ zs. refl)
        (issue_does u.memory at kind x next env u q ls cq size fit (omega arith)) (omega arith)
        (ih env q (ls ++ (kind, a) ∷ []) cq size words (record { ld = omega arith; cq = omega arith; al = al; ab = ab })))
    loads_come g u flag ih at v kind x env q ls cq size words None good false false ld room al ab =
        let y = loaded kind (value x env) u.memory in
        let r = access p c g (fetched flag u) env in
        let next = parts (a_part c n) g k in
        subst (λ (z : Access). Comes (suc (length g)) (at_code next env u) q ls cq u z) (added_nothing u.memory y r ∙ sym (no_word y (with_copy false y r)))
        (extend (length g) _ (at_code next env u) q q ls ls [] cq cq [] u flag r (λ t r. refl) (λ zs. refl) (λ zs. refl) here (omega arith)
        (ih env q ls cq size words (record { ld = omega arith; cq = omega arith; al = al; ab = ab })))

    tests_come : (g : List Part) (u : World) → Part_comes g (ticked u) → (at : Mark) (check : Check) (env : Env) (q : Counts) (ls : Loads) (cq : List ℕ) → length u.memory ≡ setup.memory → LoadsWords u.memory → (o : Option ℕ) → fault p check u env ≡ o → HasRoom c setup.depths (length ls) (length cq) g → 1 ≤ setup.depths.ab
        → Comes (suc (length g)) (at_code (Do at (Probe check) (parts (a_part c n) g k)) env u) q ls cq u (unless o (ticked u) (access p c g (ticked u) env))
    tests_come g u ih at check env q ls cq size words None e room ab =
        let r = access p c g (ticked u) env in
        let next = parts (a_part c n) g k in
        subst (λ (z : Access). Comes (suc (length g)) (at_code (Do at (Probe check) next) env u) q ls cq u z) (added_nothing u.memory 0 r ∙ no_copy r)
        (extend (length g) _ (at_code next env u) q q ls ls [] cq cq [] u false r (λ t r. refl) (λ zs. refl) (λ zs. refl)
        (passes_does u.memory at check next env u (sending q ls [] [] cq) size e) (omega arith) (ih env q ls cq size words room)) where
          no_copy : (r : Access) → with_copy false 0 r ≡ r
          no_copy (Passed env words copies u) = refl
          no_copy (Failed code u) = refl
          no_copy (Strayed u) = refl
    tests_come g u ih at check env q ls cq size words (Some code) e room ab = record {
      more = [];
      copies = [];
      al_taken = q.al_taken;
      al_reserved = q.al_reserved;
      moves = 1;
      fills = 0;
      least = 0;
      does = does_to (ap (λ (z : Loads). sending q z [] (code ∷ []) cq) (sym (append-nil ls)) ∙ ap (λ (z : List ℕ). sending q (ls ++ []) [] (code ∷ []) z) (sym (append-nil cq))) (fails_does u.memory at check (parts (a_part c n) g k) env u q ls cq code size e (omega arith));
      like = like_ticked u (ticked u) (like_itself (ticked u));
      cost = omega arith;
      trap = fault_code p check u env code e;
      all = omega arith;
    }

    pub parts_come : (g : List Part) (u : World) → Part_comes g u
    parts_come [] u env q ls cq size words room = record {
      more = [];
      are = refl;
      al_taken = q.al_taken;
      al_reserved = q.al_reserved;
      moves = 0;
      fills = 0;
      least = 0;
      does = does_to (ap (λ (z : Loads). sending q z [] [] cq) (sym (append-nil ls)) ∙ ap (λ (z : List ℕ). sending q (ls ++ []) [] [] z) (sym (append-nil cq))) here;
      like = like_itself u;
      cost = omega arith;
      all = omega arith;
    }
    parts_come (Sets place v x ∷ g) u env q ls cq size words room =
        let ld = room.ld in
        sets_come g u (parts_come g (ticked u)) (mark place n) v x env q ls cq size words (c.s v) (c.needs v) (omega arith) room.cq room.al room.ab
    parts_come (Load' place v kind x ∷ g) u env q ls cq size words room =
        loads_come g u (is_issued c v) (parts_come g (fetched (is_issued c v) u)) (mark place n) v kind x env q ls cq size words (misplaced (width_of kind) (value x env) (length u.memory)) refl (c.s v) (c.needs v) room.ld room.cq room.al room.ab
    parts_come (Tests place check ∷ g) u env q ls cq size words room =
        let ld = room.ld in let cqs = room.cq in
        tests_come g u (parts_come g (ticked u)) (mark place n) check env q ls cq size words (fault p check u env) refl (record { ld = omega arith; cq = omega arith; al = room.al; ab = λ h. room.ab refl }) (room.ab refl)
