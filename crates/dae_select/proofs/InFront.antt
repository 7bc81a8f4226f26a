-- Code in front of code, with the words at which actions begin.
use Rattle.std.proofs.Common.{◌≡◌, ◌≤◌, ℕ, ◌+◌, Bool, true, false, ◌||◌, Option, Some, None, List, [], ◌∷◌, ◌++◌, length, map, reverse, refl, ap, sym, ◌∙◌, arith, append_assoc, length-append}
use Rattle.std.specs.Prelude.{is_some, if◌then◌else◌}
use Rattle.std.proofs.lemmas.List.{append-nil, length-reverse, map-append, reverse-append}
use Rattle.dae_base.specs.declared.Place.{Place}
use Rattle.dae_encode.specs.declared.Inst.{Inst}
use Rattle.dae_ir.specs.Code.{Done, Do, If, Loop}
use Rattle.dae_ir.specs.Streams.{Actions}
use Rattle.dae_select_walks.specs.Agrees.{Plan}
use Rattle.dae_select_walks.specs.declared.VariableStanding.{VariableStanding}
use Rattle.dae_select_walks.specs.declared.VariableStanding.TheVariants.{Settled}
use Rattle.dae_select_walks.specs.Facts.{Facts, facts_behind, facts_in_first, facts_in_second, facts_past_if, facts_at_turn, facts_at_step, facts_past_loop, need_of}
use Rattle.dae_select_walks.specs.Live.{LiveWays, behind, live, step_ways, body_ways}
use Rattle.dae_select_blocks.specs.Blocks.{jump_words, jump_over, jump_back}
use Rattle.dae_select_blocks.specs.Sizes.{most_words_in}
use Rattle.dae_select_blocks.proofs.LawsOfBlocks.{code_length}
use Rattle.dae_ir.specs.declared.stream.Branch.TheVariants.{Hears}
use Rattle.dae_select_blocks.specs.Code.{standing_behind, block_code, branch_code, back_branch, has_bottom, loop_code, bottom_code, does_nothing, past_code, either_code, code_of, followed}
use Rattle.dae_select.specs.Grown.{Grown, no_code, advance, in_front}
use Rattle.dae_select.specs.Growing.{words_behind, turned, marked_code}
use Rattle.dae_select.specs.declared.making.PlacedBranch.{PlacedBranch}
use Rattle.dae_select.specs.declared.growing.PlacedWord.{PlacedWord}

abbrev grown : List Inst → List PlacedWord → Grown
grown code places = record { code = code; places = places }

abbrev word_at : ℕ → Place → PlacedWord
word_at word place = record { word = word; place = place }

-- what has the same instructions and the same places
pub same_grown : (c d : List Inst) (p q : List PlacedWord) → c ≡ d → p ≡ q → grown c p ≡ grown d q
same_grown c d p q e h = ap (λ (is : List Inst). grown is p) e ∙ ap (λ (ps : List PlacedWord). grown d ps) h

advance_twice : (m n : ℕ) (ps : List PlacedWord) → map (advance m) (map (advance n) ps) ≡ map (advance (n + m)) ps
advance_twice m n [] = refl
advance_twice m n (p ∷ ps) =
    ap (λ (w : ℕ). word_at w p.place ∷ map (advance m) (map (advance n) ps)) (omega arith)
    ∙ ap (λ (qs : List PlacedWord). advance (n + m) p ∷ qs) (advance_twice m n ps)

advance_none : (ps : List PlacedWord) → map (advance 0) ps ≡ ps
advance_none [] = refl
advance_none (p ∷ ps) =
    ap (λ (w : ℕ). word_at w p.place ∷ map (advance 0) ps) (omega arith) ∙ ap (λ (qs : List PlacedWord). p ∷ qs) (advance_none ps)

pub front_of_none : (g : Grown) → in_front g no_code ≡ g
front_of_none g =
    same_grown (g.code ++ []) g.code (map (advance 0) g.places ++ []) g.places
    (append-nil g.code) (append-nil (map (advance 0) g.places) ∙ advance_none g.places)

pub front_assoc : (a b c : Grown) → in_front (in_front a b) c ≡ in_front a (in_front b c)
front_assoc a b c =
    let n = length c.code in let m = length b.code in let far = length (b.code ++ c.code) in
    let first : map (advance n) (map (advance m) a.places) ≡ map (advance far) a.places =
    advance_twice n m a.places ∙ ap (λ (k : ℕ). map (advance k) a.places) (sym (length-append b.code c.code)) in
    same_grown ((a.code ++ b.code) ++ c.code) (a.code ++ (b.code ++ c.code))
    (map (advance n) (map (advance m) a.places ++ b.places) ++ c.places) (map (advance far) a.places ++ (map (advance n) b.places ++ c.places))
    (append_assoc a.code b.code c.code)
    (ap (λ (ps : List PlacedWord). ps ++ c.places) (map-append (advance n) (map (advance m) a.places) b.places ∙ ap (λ (ps : List PlacedWord). ps ++ map (advance n) b.places) first)
    ∙ append_assoc (map (advance far) a.places) (map (advance n) b.places) c.places)

pub reverse_map : {X Y : Type 0} (f : X → Y) (xs : List X) → reverse (map f xs) ≡ map f (reverse xs)
reverse_map f [] = refl
reverse_map {X} {Y} f (x ∷ xs) =
    reverse-append (f x ∷ []) (map f xs) ∙ ap (λ (ys : List Y). ys ++ f x ∷ []) (reverse_map f xs)
    ∙ sym (ap (λ (ys : List X). map f ys) (reverse-append (x ∷ []) xs) ∙ map-append f (reverse xs) (x ∷ []))

-- what is written from the last to the first, with what comes before it
pub put_front : (is js : List Inst) (ps qs : List PlacedWord)
    → grown (reverse (is ++ js)) (reverse (ps ++ map (advance (length is)) qs)) ≡ in_front (grown (reverse js) (reverse qs)) (grown (reverse is) (reverse ps))
put_front is js ps qs =
    same_grown (reverse (is ++ js)) (reverse js ++ reverse is) (reverse (ps ++ map (advance (length is)) qs)) (map (advance (length (reverse is))) (reverse qs) ++ reverse ps)
    (reverse-append is js)
    (reverse-append ps (map (advance (length is)) qs) ∙ ap (λ (xs : List PlacedWord). xs ++ reverse ps) (reverse_map (advance (length is)) qs ∙ ap (λ (n : ℕ). map (advance n) (reverse qs)) (sym (length-reverse is))))

-- ---- the instructions are those of the code

module _ (short : Bool) (plan : Plan) (variables : ℕ → ℕ) (f : ℕ) where
  abbrev code : Facts → Actions → LiveWays → ℕ → ℕ → List Inst
  code known = code_of short plan variables f Settled known

  abbrev marked : Facts → Actions → LiveWays → ℕ → ℕ → Grown
  marked known = marked_code short plan variables f Settled known

  -- a loop, from its parts
  abbrev loop_of : Option PlacedBranch → (ℕ → ℕ → Grown) → (ℕ → ℕ → Grown) → (ℕ → ℕ → Grown) → Grown → Grown
  loop_of test tail body step rest =
      let words = words_behind (plan.home f) short test in
      let again = step words 0 in
      let to = length again.code + words in
      turned (plan.home f) short test (if is_some test then tail to 0 else body to 0) again rest

  looped_code : (below : Bool) (t : PlacedBranch) (tail body step : ℕ → ℕ → Grown) (tail' body' step' : ℕ → ℕ → List Inst) (rest : Grown) (rest' : List Inst) → ((l s : ℕ) → (tail l s).code ≡ tail' l s) → ((l s : ℕ) → (body l s).code ≡ body' l s) → ((l s : ℕ) → (step l s).code ≡ step' l s) → rest.code ≡ rest'
      → (loop_of (if below then Some t else None) tail body step rest).code ≡ (if below then bottom_code short tail' step' (back_branch (plan.home f) t.branch true) rest' else loop_code short body' (step' (jump_words short) 0) rest')
  looped_code true t tail body step tail' body' step' rest rest' same_tail same_body same_step same_rest =
      let words = length (back_branch (plan.home f) t.branch true 0) in
      let whole : List Inst → List Inst → List Inst → List Inst = λ g d r. jump_over short (length g + length d) ++ (g ++ (d ++ (back_branch (plan.home f) t.branch true (length g + length d) ++ r))) in
      let r = rest.code in
      let d = (step words 0).code in let again = step' words 0 in
      let ed : d ≡ again = same_step words 0 in
      let g = (tail (length d + words) 0).code in let turn = tail' (length again + words) 0 in
      let eg : g ≡ turn = same_tail (length d + words) 0 ∙ ap (λ (c : List Inst). tail' (length c + words) 0) ed in
      ap (λ (c : List Inst). whole g d c) same_rest ∙ ap (λ (c : List Inst). whole g c rest') ed ∙ ap (λ (c : List Inst). whole c again rest') eg
  looped_code false t tail body step tail' body' step' rest rest' same_tail same_body same_step same_rest =
      let words = jump_words short in
      let whole : List Inst → List Inst → List Inst → List Inst = λ g d r. g ++ (d ++ (jump_back short (length g + length d) ++ r)) in
      let r = rest.code in
      let d = (step words 0).code in let again = step' words 0 in
      let ed : d ≡ again = same_step words 0 in
      let g = (body (length d + words) 0).code in let turn = body' (length again + words) 0 in
      let eg : g ≡ turn = same_body (length d + words) 0 ∙ ap (λ (c : List Inst). body' (length c + words) 0) ed in
      ap (λ (c : List Inst). whole g d c) same_rest ∙ ap (λ (c : List Inst). whole g c rest') ed ∙ ap (λ (c : List Inst). whole c again rest') eg

  pub same_code : (g : VariableStanding) (known : Facts) (c : Actions) (x : LiveWays) (l s : ℕ) → (marked_code short plan variables f g known c x l s).code ≡ code_of short plan variables f g known c x l s
  same_code g' known Done x l s = refl
  same_code g' known (Do m a k) x l s =
      let next = standing_behind a k x in
      ap (λ (rest : List Inst). followed short (block_code plan variables f (need_of plan.memory known a k) g' a next (live k x)) rest l s) (same_code next (facts_behind plan.memory a known) k x l s)
  same_code g' known (If m b p q k) x l s =
      let y = behind (live k x) x in let none = does_nothing p in
      let K = facts_past_if b p q known in let Q = facts_in_second b known in let P = facts_in_first b known in
      let branch : Bool → ℕ → List Inst = branch_code (plan.home f) short b in
      let past : ℕ → List Inst = past_code short (none || does_nothing q) in
      let whole : List Inst → List Inst → List Inst → List Inst = λ g d r. either_code none branch g (past (length d)) d r in
      let far : List Inst → List Inst → ℕ = λ d r. length (past (length d)) + length d + length r in
      let r = (marked K k x l s).code in let rest = code K k x l s in
      let er : r ≡ rest = same_code Settled K k x l s in
      let d = (marked Q q y (length r + l) (length r + s)).code in let second = code Q q y (length rest + l) (length rest + s) in
      let ed : d ≡ second = same_code Settled Q q y (length r + l) (length r + s) ∙ ap (λ (c : List Inst). code Q q y (length c + l) (length c + s)) er in
      let n = far d r in let g = (marked P p y (n + l) (n + s)).code in
      let first = code P p y (far second rest + l) (far second rest + s) in
      let eg : g ≡ first = same_code Settled P p y (n + l) (n + s) ∙ ap (λ (c : List Inst). code P p y (far c r + l) (far c r + s)) ed ∙ ap (λ (c : List Inst). code P p y (far second c + l) (far second c + s)) er in
      ap (λ (c : List Inst). whole g d c) er ∙ ap (λ (c : List Inst). whole g c rest) ed ∙ ap (λ (c : List Inst). whole c second rest) eg
  same_code g' known (Loop m Done step k) x l s =
      let n = live k x in let y = body_ways Done step n in
      let T = facts_at_turn plan.memory Done step known in let S = facts_at_step plan.memory Done step known in let K = facts_past_loop Done step known in
      looped_code false (record { place = m.place; branch = Hears }) (λ l s. no_code) (marked T Done y) (marked S step (step_ways Done step n)) (λ l s. []) (code T Done y) (code S step (step_ways Done step n)) (marked K k x l s) (code K k x l s)
      (λ l s. refl) (λ l s. same_code Settled T Done y l s) (λ l s. same_code Settled S step (step_ways Done step n) l s) (same_code Settled K k x l s)
  same_code g' known (Loop m (Do m' a t) step k) x l s =
      let n = live k x in let y = body_ways (Do m' a t) step n in
      let T = facts_at_turn plan.memory (Do m' a t) step known in let S = facts_at_step plan.memory (Do m' a t) step known in let K = facts_past_loop (Do m' a t) step known in
      looped_code false (record { place = m.place; branch = Hears }) (λ l s. no_code) (marked T (Do m' a t) y) (marked S step (step_ways (Do m' a t) step n)) (λ l s. []) (code T (Do m' a t) y) (code S step (step_ways (Do m' a t) step n)) (marked K k x l s) (code K k x l s)
      (λ l s. refl) (λ l s. same_code Settled T (Do m' a t) y l s) (λ l s. same_code Settled S step (step_ways (Do m' a t) step n) l s) (same_code Settled K k x l s)
  same_code g' known (Loop m (Loop m' c d t) step k) x l s =
      let n = live k x in let y = body_ways (Loop m' c d t) step n in
      let T = facts_at_turn plan.memory (Loop m' c d t) step known in let S = facts_at_step plan.memory (Loop m' c d t) step known in let K = facts_past_loop (Loop m' c d t) step known in
      looped_code false (record { place = m.place; branch = Hears }) (λ l s. no_code) (marked T (Loop m' c d t) y) (marked S step (step_ways (Loop m' c d t) step n)) (λ l s. []) (code T (Loop m' c d t) y) (code S step (step_ways (Loop m' c d t) step n)) (marked K k x l s) (code K k x l s)
      (λ l s. refl) (λ l s. same_code Settled T (Loop m' c d t) y l s) (λ l s. same_code Settled S step (step_ways (Loop m' c d t) step n) l s) (same_code Settled K k x l s)
  same_code g' known (Loop m (If m' b p q t) step k) x l s =
      let n = live k x in let y = body_ways (If m' b p q t) step n in
      let T = facts_at_turn plan.memory (If m' b p q t) step known in let S = facts_at_step plan.memory (If m' b p q t) step known in let K = facts_past_loop (If m' b p q t) step known in
      let F = facts_past_if b p q T in
      looped_code (has_bottom (If m' b p q t) step) (record { place = m'.place; branch = b }) (marked F t y) (marked T (If m' b p q t) y) (marked S step (step_ways (If m' b p q t) step n)) (code F t y) (code T (If m' b p q t) y) (code S step (step_ways (If m' b p q t) step n)) (marked K k x l s) (code K k x l s)
      (λ l s. same_code Settled F t y l s) (λ l s. same_code Settled T (If m' b p q t) y l s) (λ l s. same_code Settled S step (step_ways (If m' b p q t) step n) l s) (same_code Settled K k x l s)

  -- how many words it has at most
  pub marked_length : (known : Facts) (c : Actions) (x : LiveWays) (l s : ℕ) → length (marked known c x l s).code ≤ most_words_in c
  marked_length known c x l s = (let h = code_length short plan variables f Settled known c x l s in let e = ap length (same_code Settled known c x l s) in omega arith)

  -- what does nothing has no code
  pub nothing_marked : (known : Facts) (c : Actions) (x : LiveWays) (l s : ℕ) → does_nothing c ≡ true → length (marked known c x l s).code ≡ 0
  nothing_marked known Done x l s is = refl
  nothing_marked known (Do m a k) x l s is = absurd cc
  nothing_marked known (If m b p q k) x l s is = absurd cc
  nothing_marked known (Loop m body step k) x l s is = absurd cc
