-- One turn of replacing, on lists.
use Rattle.std.proofs.Common.{subst, IfErr, ◌≡◌, ℕ, zero, suc, pred, ◌+◌, ◌-◌, ◌^◌, ◌<◌, ◌≤◌, List, [], ◌∷◌, ◌++◌, length, refl, ap, sym, ◌∙◌, arith, append_assoc, append-nil, Some, None, Result, Ok, Err, OnOk}
use Rattle.std.specs.List.{flat_map, sum_by}
use Rattle.std.proofs.lemmas.List.{map-append, length-append}
use Rattle.std.proofs.lemmas.List.Sums.{sum_by-append}
use Rattle.dae_tree.specs.declared.faults.Construct.TheVariants.{TooManyReplacements}
use Rattle.dae_tree.specs.declared.faults.LexError.{LexError}
use Rattle.dae_tree.specs.declared.faults.LexError.TheVariants.{BadByte, TooManyTokens, Refused, Memory}
use Rattle.dae_tree.specs.Pieces.{Cut}
use Rattle.dae_tree.specs.Replacing.{Definition, TextItem, replaced, refused, replacement, expand, items_of}
use Rattle.dae_lex.specs.Settling.{LexState, Settles, Fails, step, settle}
use Rattle.dae_lex.specs.Pending.{PendingReplacement, Follows, names_of, pending, work_of}
use Rattle.dae_lex.proofs.Limits.{settle_append, then_settle}

-- settling the first items
pub settle_ok : (s t : LexState) (xs ys : List TextItem) → settle s xs ≡ Ok t → settle s (xs ++ ys) ≡ settle t ys
settle_ok s t xs ys h = settle_append xs ys s ∙ ap (λ r. then_settle r ys) h

pub settle_err : (s : LexState) (e : LexError) (xs ys : List TextItem) → settle s xs ≡ Err e → settle s (xs ++ ys) ≡ Err e
settle_err s e xs ys h = settle_append xs ys s ∙ ap (λ r. then_settle r ys) h

pub fails_on : (e : LexError) (s : LexState) (xs ys : List TextItem) → Fails e (settle s xs) → Fails e (settle s (xs ++ ys))
fails_on Memory s xs ys h = tt
fails_on (BadByte p) s xs ys h = settle_err s (BadByte p) xs ys h
fails_on (TooManyTokens p) s xs ys h = settle_err s (TooManyTokens p) xs ys h
fails_on (Refused c p) s xs ys h = settle_err s (Refused c p) xs ys h

pub fails_along : (e : LexError) (x y : Result LexState LexError) → x ≡ y → Fails e x → Fails e y
fails_along Memory x y d h = tt
fails_along (BadByte p) x y d h = sym d ∙ h
fails_along (TooManyTokens p) x y d h = sym d ∙ h
fails_along (Refused c p) x y d h = sym d ∙ h

fails_by : (e f : LexError) (s t : Result LexState LexError) → s ≡ Err f → t ≡ Err f → Fails e t → Fails e s
fails_by e f s t a b h = fails_along e t s (b ∙ sym a) h

-- what a call left, where it settled the first items
pub follows : (r : Result (Unit {0}) LexError) (s t : LexState) (xs ys : List TextItem) (before after : Result LexState LexError)
    → before ≡ settle s (xs ++ ys) → OnOk r (after ≡ settle t ys) → Settles t r (settle s xs) → Follows r before after
follows (Ok x) s t xs ys before after b a h = a ∙ sym (settle_ok s t xs ys h) ∙ sym b
follows (Err e) s t xs ys before after b a h = fails_along e (settle s (xs ++ ys)) before (sym b) (fails_on e s xs ys h)

pub refuses : (r : Result (Unit {0}) LexError) (s t : LexState) (xs : List TextItem) (e : LexError) (before after : Result LexState LexError)
    → before ≡ Err e → settle s xs ≡ Err e → Settles t r (settle s xs) → Follows r before after
refuses (Ok x) s t xs e before after b d h = absurd (cc)
refuses (Err f) s t xs e before after b d h = fails_by f e before (settle s xs) b d h

pub always : {X : Type 0} (r : Result (Unit {0}) LexError) → X → OnOk r X
always (Ok x) h = h
always (Err e) h = tt

pub both_ok : {X Y Z : Type 0} (r : Result (Unit {0}) LexError) → (X → Y → Z) → OnOk r X → OnOk r Y → OnOk r Z
both_ok (Ok x) f a b = f a b
both_ok (Err e) f a b = tt

no_step : (s : LexState) (origin : Cut) → s.room.replacements ≡ 0 → step s (replaced origin) ≡ Err (Refused TooManyReplacements origin.place)
no_step s origin h = rw (h, step) refl

pub no_room : (s : LexState) (origin : Cut) → s.room.replacements ≡ 0 → settle s (replaced origin ∷ []) ≡ Err (Refused TooManyReplacements origin.place)
no_room s origin h = rw (no_step s origin h, settle) refl

-- how much the frames have left
abbrev load : List PendingReplacement → ℕ
load fs = sum_by (λ f. 1 + length f.rest) fs

load_push : (fs all : List PendingReplacement) (f : PendingReplacement) → all ≡ fs ++ f ∷ [] → load all ≡ load fs + (1 + length f.rest)
load_push fs all f e = ap load e ∙ sum_by-append (λ (f : PendingReplacement). 1 + length f.rest) fs (f ∷ []) ∙ (omega arith)

pub work_over : (left : ℕ) (old fs : List PendingReplacement) (f : PendingReplacement) → old ≡ fs ++ f ∷ [] → work_of left fs < work_of left old
unfolding work_of
work_over left old fs f e = omega (arith, load_push fs old f e)

pub work_take : (left : ℕ) (old fs new : List PendingReplacement) (f g : PendingReplacement) → old ≡ fs ++ f ∷ [] → new ≡ fs ++ g ∷ []
    → length g.rest < length f.rest → work_of left new < work_of left old
unfolding work_of
work_take left old fs new f g e d h = omega (arith, load_push fs old f e, load_push fs new g d)

pub work_begin : (left now : ℕ) (old fs mid new : List PendingReplacement) (f g b : PendingReplacement) → old ≡ fs ++ f ∷ [] → mid ≡ fs ++ g ∷ [] → new ≡ mid ++ b ∷ []
    → now + 1 ≡ left → length g.rest < length f.rest → length b.rest < 2 ^ 64 → work_of now new < work_of left old
unfolding work_of
work_begin left now old fs mid new f g b e d a k h i = omega (arith, load_push fs old f e, load_push fs mid g d, load_push mid new b a)

module _ (macros : List Definition) (origin : Cut) where
  -- the innermost replacement, and the others after it
  pub pending_push : (n k : ℕ) (names : List (List ℕ)) (fs : List PendingReplacement) (f : PendingReplacement) → k ≡ n - length fs - 1
      → pending n macros names origin (fs ++ f ∷ [])
      ≡ flat_map (expand k macros (names ++ names_of (fs ++ f ∷ [])) origin) f.rest ++ pending n macros names origin fs
  unfolding pending
  pending_push n k names [] f e =
      let p : k ≡ pred n = omega arith in
      rw p (sym (append-nil _))
  pending_push n k names (g ∷ gs) f e =
      let deeper = pending_push (pred n) k (names ++ g.name ∷ []) gs f (omega arith) in
      let last = flat_map (expand (pred n) macros (names ++ g.name ∷ []) origin) g.rest in
      let others = pending (pred n) macros (names ++ g.name ∷ []) origin gs in
      let regrouped : (names ++ g.name ∷ []) ++ names_of (gs ++ f ∷ []) ≡ names ++ g.name ∷ names_of (gs ++ f ∷ []) =
      append_assoc names (g.name ∷ []) (names_of (gs ++ f ∷ [])) in
      ap (λ xs. xs ++ last) deeper
      ∙ ap (λ ns. (flat_map (expand k macros ns origin) f.rest ++ others) ++ last) regrouped
      ∙ append_assoc (flat_map (expand k macros (names ++ g.name ∷ names_of (gs ++ f ∷ [])) origin) f.rest) others last

  -- what a piece gives that is not replaced, and one that is
  pub expand_none : (k : ℕ) (names : List (List ℕ)) (p : Cut) → replacement macros names p ≡ None → expand k macros names origin p ≡ items_of p origin
  expand_none zero names p h = rw (h, expand) refl
  expand_none (suc k) names p h = rw (h, expand) refl

  pub expand_some : (k : ℕ) (names : List (List ℕ)) (p : Cut) (body : List Cut) → replacement macros names p ≡ Some body
      → expand (suc k) macros names origin p ≡ replaced origin ∷ flat_map (expand k macros (names ++ p.spelling ∷ []) origin) body
  expand_some k names p body h = rw (h, expand) refl

  pub refused_at : (k : ℕ) (s : LexState) (names : List (List ℕ)) (p : Cut) (body : List Cut) (items : List TextItem) → replacement macros names p ≡ Some body
      → s.room.replacements ≡ 0 → settle s (expand k macros names origin p ++ items) ≡ Err (Refused TooManyReplacements origin.place)
  refused_at zero s names p body items h empty = rw (h, expand) refl
  refused_at (suc k) s names p body items h empty =
      ap (λ xs. settle s (xs ++ items)) (expand_some k names p body h)
      ∙ settle_err s (Refused TooManyReplacements origin.place) (replaced origin ∷ []) (flat_map (expand k macros (names ++ p.spelling ∷ []) origin) body ++ items) (no_room s origin empty)

  module _ (n : ℕ) (fs : List PendingReplacement) (f : PendingReplacement) where
    pub frame_over : f.rest ≡ [] → pending n macros [] origin (fs ++ f ∷ []) ≡ pending n macros [] origin fs
    frame_over e =
        pending_push n (n - length fs - 1) [] fs f refl
        ∙ ap (λ r. flat_map (expand (n - length fs - 1) macros (names_of (fs ++ f ∷ [])) origin) r ++ pending n macros [] origin fs) e

    next : (k : ℕ) (p : Cut) (rest : List Cut) → f.rest ≡ p ∷ rest → k ≡ n - length fs - 1
        → pending n macros [] origin (fs ++ f ∷ [])
        ≡ expand k macros (names_of (fs ++ f ∷ [])) origin p ++ pending n macros [] origin (fs ++ record { name = f.name; rest = rest } ∷ [])
    next k p rest e h =
        let g : PendingReplacement = record { name = f.name; rest = rest } in
        let same : names_of (fs ++ f ∷ []) ≡ names_of (fs ++ g ∷ []) = map-append (λ (x : PendingReplacement). x.name) fs (f ∷ []) ∙ sym (map-append (λ (x : PendingReplacement). x.name) fs (g ∷ [])) in
        pending_push n k [] fs f h
        ∙ ap (λ r. flat_map (expand k macros (names_of (fs ++ f ∷ [])) origin) r ++ pending n macros [] origin fs) e
        ∙ append_assoc (expand k macros (names_of (fs ++ f ∷ [])) origin p) (flat_map (expand k macros (names_of (fs ++ f ∷ [])) origin) rest) (pending n macros [] origin fs)
        ∙ ap (λ ns. expand k macros (names_of (fs ++ f ∷ [])) origin p ++ (flat_map (expand k macros ns origin) rest ++ pending n macros [] origin fs)) same
        ∙ ap (λ xs. expand k macros (names_of (fs ++ f ∷ [])) origin p ++ xs) (sym (pending_push n k [] fs g h))

    module _ (p : Cut) (rest : List Cut) (e : f.rest ≡ p ∷ rest) where
      after : List PendingReplacement
      after = fs ++ record { name = f.name; rest = rest } ∷ []

      renamed : names_of (fs ++ f ∷ []) ≡ names_of (fs ++ record { name = f.name; rest = rest } ∷ [])
      renamed = map-append (λ (x : PendingReplacement). x.name) fs (f ∷ []) ∙ sym (map-append (λ (x : PendingReplacement). x.name) fs (record { name = f.name; rest = rest } ∷ []))

      pub next_none : replacement macros (names_of (fs ++ record { name = f.name; rest = rest } ∷ [])) p ≡ None
          → pending n macros [] origin (fs ++ f ∷ []) ≡ items_of p origin ++ pending n macros [] origin (fs ++ record { name = f.name; rest = rest } ∷ [])
      next_none h =
          next (n - length fs - 1) p rest e refl
          ∙ ap (λ xs. xs ++ pending n macros [] origin (fs ++ record { name = f.name; rest = rest } ∷ []))
          (expand_none (n - length fs - 1) (names_of (fs ++ f ∷ [])) p (ap (λ ns. replacement macros ns p) renamed ∙ h))

      pub next_some : (body : List Cut) → replacement macros (names_of (fs ++ record { name = f.name; rest = rest } ∷ [])) p ≡ Some body
          → length fs + 1 < n
          → pending n macros [] origin (fs ++ f ∷ [])
          ≡ replaced origin ∷ pending n macros [] origin ((fs ++ record { name = f.name; rest = rest } ∷ []) ++ record { name = p.spelling; rest = body } ∷ [])
      next_some body h room =
          let g : PendingReplacement = record { name = p.spelling; rest = body } in
          let inner : List PendingReplacement = fs ++ record { name = f.name; rest = rest } ∷ [] in
          let k = n - length fs - 2 in
          let deep : suc k ≡ n - length fs - 1 = omega arith in
          let named : names_of (fs ++ f ∷ []) ++ p.spelling ∷ [] ≡ names_of (inner ++ g ∷ []) =
          ap (λ ns. ns ++ p.spelling ∷ []) renamed ∙ sym (map-append (λ (x : PendingReplacement). x.name) inner (g ∷ [])) in
          next (suc k) p rest e deep
          ∙ ap (λ xs. xs ++ pending n macros [] origin inner)
          (expand_some k (names_of (fs ++ f ∷ [])) p body (ap (λ ns. replacement macros ns p) renamed ∙ h))
          ∙ ap (λ ns. replaced origin ∷ (flat_map (expand k macros ns origin) body ++ pending n macros [] origin inner)) named
          ∙ ap (λ xs. replaced origin ∷ xs)
          (sym (pending_push n k [] inner g (omega (arith, length-append fs (record { name = f.name; rest = rest } ∷ [])))))

      -- where no room is left, the name of a macro is refused
      pub next_refused : (s : LexState) (body : List Cut) → replacement macros (names_of (fs ++ record { name = f.name; rest = rest } ∷ [])) p ≡ Some body
          → s.room.replacements ≡ 0 → settle s (pending n macros [] origin (fs ++ f ∷ [])) ≡ Err (Refused TooManyReplacements origin.place)
      next_refused s body h empty =
          ap (settle s) (next (n - length fs - 1) p rest e refl)
          ∙ refused_at (n - length fs - 1) s (names_of (fs ++ f ∷ [])) p body (pending n macros [] origin (fs ++ record { name = f.name; rest = rest } ∷ []))
          (ap (λ ns. replacement macros ns p) renamed ∙ h) empty

-- the first replacement of a piece of the text, and the end of all
pub opened : (macros : List Definition) (p : Cut) (body : List Cut) (s t : LexState) (n : ℕ) → replacement macros [] p ≡ Some body
    → settle s (replaced p ∷ []) ≡ Ok t → 0 < n
    → settle t (pending n macros [] p (record { name = p.spelling; rest = body } ∷ [])) ≡ settle s (expand n macros [] p p)
unfolding pending
opened macros p body s t zero h e w = absurd (omega arith)
opened macros p body s t (suc m) h e w =
    sym (ap (settle s) (expand_some macros p m [] p body h) ∙ settle_ok s t (replaced p ∷ []) (flat_map (expand m macros (p.spelling ∷ []) p) body) e)

pub all_over : (macros : List Definition) (p : Cut) (t : LexState) (n : ℕ) → settle t (pending n macros [] p []) ≡ Ok t
unfolding pending
all_over macros p t n = refl

-- no room for the first replacement of a piece
pub begin_fails : (e : LexError) (macros : List Definition) (p : Cut) (body : List Cut) (s : LexState) (n : ℕ) → replacement macros [] p ≡ Some body
    → s.room.replacements ≤ n → Fails e (settle s (replaced p ∷ [])) → Fails e (settle s (expand n macros [] p p))
begin_fails e macros p body s zero h w failed =
    let refusal : expand 0 macros [] p p ≡ refused (Refused TooManyReplacements p.place) ∷ [] = rw (h, expand) refl in
    fails_along e _ _ (no_room s p (omega arith) ∙ sym (ap (settle s) refusal)) failed
begin_fails e macros p body s (suc m) h w failed =
    fails_along e _ _ (sym (ap (settle s) (expand_some macros p m [] p body h)))
    (fails_on e s (replaced p ∷ []) (flat_map (expand m macros (p.spelling ∷ []) p) body) failed)

-- a call that only memory can stop
pub memory_only : (r : Result (Unit {0}) LexError) (s : LexState) (x : Result LexState LexError) → x ≡ Ok s → IfErr r (λ e. e ≡ Memory) → Settles s r x
memory_only (Ok y) s x h k = h
memory_only (Err e) s x h k = subst (λ f. Fails f x) (sym k) tt
