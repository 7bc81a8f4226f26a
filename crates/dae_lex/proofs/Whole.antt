-- From settling to the tokens of a text.
use Rattle.std.proofs.Common.{◌≡◌, ℕ, zero, suc, ◌+◌, ◌-◌, Bool, true, false, if◌then◌else◌, nat_le, List, [], ◌∷◌, ◌++◌, map, length, refl, ap, sym, ◌∙◌, arith, append_assoc, append-nil, Result, Ok, Err}
use Rattle.std.specs.List.{sum_by}
use Rattle.std.proofs.lemmas.List.{length-append, map-append}
use Rattle.dae_tree.specs.declared.tokens.Room.{Room}
use Rattle.dae_tree.specs.declared.faults.Construct.{Construct}
use Rattle.dae_tree.specs.Pieces.{Cut}
use Rattle.dae_tree.specs.declared.faults.Construct.TheVariants.{LiteralsTooLong}
use Rattle.dae_tree.specs.declared.faults.LexError.{LexError}
use Rattle.dae_tree.specs.declared.faults.LexError.TheVariants.{BadByte, TooManyTokens, Refused, Memory}
use Rattle.dae_tree.specs.Replacing.{Meaning, TokenRead, TextItem, taken, replaced, refused, Tested, token, failed, tested_one, literal_length}
use Rattle.dae_tree.specs.Tokens.{reads_of, room_after, count_replaced}
use Rattle.dae_lex.specs.Settling.{LexState, Fails, settle, step, keep}
use Rattle.dae_lex.specs.Whole.{span, origins}
use Rattle.dae_lex.proofs.Limits.{answer, settle_is, state}

-- the answer, as a state
by_answer : (room : Room) (items : List TextItem) (x : Result (List TokenRead) LexError) (s : LexState)
    → answer [] room.tokens room.replacements room.literal_bytes x (count_replaced items) ≡ Ok s
    → (x ≡ Ok s.tokens) × (s.room ≡ room_after room items s.tokens)
by_answer room items (Ok reads) s e =
    let k : ◌≡◌ {A = LexState} (state reads (room.tokens - length reads) (room.replacements - count_replaced items) (room.literal_bytes - sum_by (λ t. literal_length t.meaning) reads)) s = cc in
    (ap (λ (q : LexState). Ok q.tokens) k, sym (ap (λ (q : LexState). q.room) k) ∙ ap (λ (q : LexState). room_after room items q.tokens) k)
by_answer room items (Err f) s e = absurd (cc)

by_failure : (room : Room) (items : List TextItem) (x : Result (List TokenRead) LexError) (e : LexError)
    → Fails e (answer [] room.tokens room.replacements room.literal_bytes x (count_replaced items)) → Fails e x
by_failure room items x Memory h = tt
by_failure room items (Ok reads) (BadByte p) h = absurd (cc)
by_failure room items (Ok reads) (TooManyTokens p) h = absurd (cc)
by_failure room items (Ok reads) (Refused c p) h = absurd (cc)
by_failure room items (Err f) (BadByte p) h = let k : f ≡ BadByte p = cc in ap Err k
by_failure room items (Err f) (TooManyTokens p) h = let k : f ≡ TooManyTokens p = cc in ap Err k
by_failure room items (Err f) (Refused c p) h = let k : f ≡ Refused c p = cc in ap Err k

-- each token that is kept takes one from the room
kept_count : (ts : List TokenRead) (n r l : ℕ) (u : TokenRead) (b : Bool) (t : LexState)
    → ◌≡◌ {A = Result LexState LexError} (if b then Ok (state (ts ++ u ∷ []) n r (l - literal_length u.meaning)) else Err (Refused LiteralsTooLong u.place)) (Ok t)
    → length t.tokens + t.room.tokens ≡ length ts + suc n
kept_count ts n r l u true t e =
    let k : ◌≡◌ {A = LexState} (state (ts ++ u ∷ []) n r (l - literal_length u.meaning)) t = cc in
    sym (ap (λ (q : LexState). length q.tokens + q.room.tokens) k) ∙ omega (arith, length-append ts (u ∷ []))
kept_count ts n r l u false t e = absurd (cc)

tested_count : (ts : List TokenRead) (n r l : ℕ) (x : Tested) (t : LexState) → keep (state ts (suc n) r l) n x ≡ Ok t → length t.tokens + t.room.tokens ≡ length ts + suc n
tested_count ts n r l (token u) t e = kept_count ts n r l u (nat_le (literal_length u.meaning) l) t e
tested_count ts n r l (failed f) t e = absurd (cc)

step_count : (i : TextItem) (ts : List TokenRead) (n r l : ℕ) (t : LexState) → step (state ts n r l) i ≡ Ok t → length t.tokens + t.room.tokens ≡ length ts + n
step_count (taken m o) ts zero r l t e = absurd (cc)
step_count (taken m o) ts (suc n) r l t e = tested_count ts n r l (tested_one m o) t e
step_count (replaced o) ts n zero l t e = absurd (cc)
step_count (replaced o) ts n (suc r) l t e = let k : ◌≡◌ {A = LexState} (state ts n r l) t = cc in sym (ap (λ (q : LexState). length q.tokens + q.room.tokens) k)
step_count (refused f) ts n r l t e = absurd (cc)

settle_next : (i : TextItem) (is : List TextItem) (s t : LexState) (x : Result LexState LexError) → step s i ≡ x
    → ((u : LexState) → settle u is ≡ Ok t → length t.tokens + t.room.tokens ≡ length u.tokens + u.room.tokens)
    → ◌≡◌ {A = Result LexState LexError} (elim x [ Ok u ↦ settle u is | Err e ↦ Err e ]) (Ok t)
    → length t.tokens + t.room.tokens ≡ length s.tokens + s.room.tokens
settle_next i is s t (Ok u) h rest e = rest u e ∙ step_count i s.tokens s.room.tokens s.room.replacements s.room.literal_bytes u h
settle_next i is s t (Err f) h rest e = absurd (cc)

pub settle_count : (items : List TextItem) (s t : LexState) → settle s items ≡ Ok t → length t.tokens + t.room.tokens ≡ length s.tokens + s.room.tokens
settle_count [] s t e = let k : s ≡ t = cc in sym (ap (λ (q : LexState). length q.tokens + q.room.tokens) k)
settle_count (i ∷ is) s t e = settle_next i is s t (step s i) refl (λ u. settle_count is u t) e

-- each token comes from the piece of its item
abbrev spans_of : LexState → List (ℕ × ℕ)
spans_of s = map span s.tokens

kept_span : (ts : List TokenRead) (n r l : ℕ) (u : TokenRead) (b : Bool) (t : LexState)
    → ◌≡◌ {A = Result LexState LexError} (if b then Ok (state (ts ++ u ∷ []) n r (l - literal_length u.meaning)) else Err (Refused LiteralsTooLong u.place)) (Ok t)
    → spans_of t ≡ map span ts ++ span u ∷ []
kept_span ts n r l u true t e =
    let k : ◌≡◌ {A = LexState} (state (ts ++ u ∷ []) n r (l - literal_length u.meaning)) t = cc in
    sym (ap spans_of k) ∙ map-append span ts (u ∷ [])
kept_span ts n r l u false t e = absurd (cc)

tested_span : (ts : List TokenRead) (n r l : ℕ) (m : Result Meaning Construct) (o : Cut) (t : LexState) → keep (state ts (suc n) r l) n (tested_one m o) ≡ Ok t
    → spans_of t ≡ map span ts ++ (o.start, o.end) ∷ []
tested_span ts n r l (Ok m) o t e =
    kept_span ts n r l (record { meaning = m; start = o.start; end = o.end; place = o.place }) (nat_le (literal_length m) l) t e
tested_span ts n r l (Err f) o t e = absurd (cc)

step_span : (i : TextItem) (ts : List TokenRead) (n r l : ℕ) (t : LexState) → step (state ts n r l) i ≡ Ok t → spans_of t ≡ map span ts ++ origins (i ∷ [])
step_span (taken m o) ts zero r l t e = absurd (cc)
step_span (taken m o) ts (suc n) r l t e = tested_span ts n r l m o t e
step_span (replaced o) ts n zero l t e = absurd (cc)
step_span (replaced o) ts n (suc r) l t e = let k : ◌≡◌ {A = LexState} (state ts n r l) t = cc in sym (ap spans_of k) ∙ sym (append-nil (map span ts))
step_span (refused f) ts n r l t e = absurd (cc)

one_origin : (i : TextItem) (is : List TextItem) → origins (i ∷ []) ++ origins is ≡ origins (i ∷ is)
one_origin (taken m o) is = refl
one_origin (replaced o) is = refl
one_origin (refused f) is = refl

span_next : (i : TextItem) (is : List TextItem) (s t : LexState) (x : Result LexState LexError) → step s i ≡ x
    → ((u : LexState) → settle u is ≡ Ok t → spans_of t ≡ spans_of u ++ origins is)
    → ◌≡◌ {A = Result LexState LexError} (elim x [ Ok u ↦ settle u is | Err e ↦ Err e ]) (Ok t)
    → spans_of t ≡ spans_of s ++ origins (i ∷ is)
span_next i is s t (Ok u) h rest e =
    rest u e ∙ ap (λ xs. xs ++ origins is) (step_span i s.tokens s.room.tokens s.room.replacements s.room.literal_bytes u h)
    ∙ append_assoc (spans_of s) (origins (i ∷ [])) (origins is) ∙ ap (λ xs. spans_of s ++ xs) (one_origin i is)
span_next i is s t (Err f) h rest e = absurd (cc)

pub settle_spans : (items : List TextItem) (s t : LexState) → settle s items ≡ Ok t → spans_of t ≡ spans_of s ++ origins items
settle_spans [] s t e = let k : s ≡ t = cc in sym (ap spans_of k) ∙ sym (append-nil (spans_of s))
settle_spans (i ∷ is) s t e = span_next i is s t (step s i) refl (λ u. settle_spans is u t) e

module _ (room : Room) (items : List TextItem) where
  pub settled : (s : LexState) → settle (record { tokens = []; room = room }) items ≡ Ok s
      → (reads_of room items ≡ Ok s.tokens) × (s.room ≡ room_after room items s.tokens)
  settled s e = by_answer room items (reads_of room items) s (sym (settle_is items [] room.tokens room.replacements room.literal_bytes) ∙ e)

  pub unsettled : (e : LexError) → Fails e (settle (record { tokens = []; room = room }) items) → Fails e (reads_of room items)
  unsettled e h =
      by_failure room items (reads_of room items) e (rw (← settle_is items [] room.tokens room.replacements room.literal_bytes) h)
