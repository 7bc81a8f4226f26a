-- What is due for the files that are fetched in order, by what each fetch gave.
use Rattle.std.proofs.Common.{◌≡◌, ◌⊎◌, inl, inr, ℕ, zero, suc, ◌+◌, ◌-◌, ◌<◌, ◌≤◌, List, [], ◌∷◌, ◌++◌, length, take, refl, ap, sym, ◌∙◌, subst, append_assoc, append-nil, arith, drop, get_or, map}
use Rattle.std.proofs.lemmas.List.{at_drop_more}
use Rattle.std.specs.Prelude.{Option, Some, None, IfSome}
use Rattle.std.specs.List.{AllByRecursion}
use Rattle.dae_io.specs.Faults.{FetchFailed, Rose, ShelfFault}
use Rattle.dae_io.specs.Told.{IsFirst, TellsSame}
use Rattle.dae_cli_drive.specs.Lines.{memory_line, read_line}
use Rattle.dae_cli_drive.specs.Puts.{Answer, told}
use Rattle.dae_cli_drive.specs.Shelves.{IsTold, ShelfSeen}
use Rattle.dae_cli_drive.proofs.LawsOfFiles.{fails_before, longer_text, seen_by, told_before}
use Rattle.dae_cli_source_jobs.specs.Refusals.{too_long_line}
use Rattle.dae_cli_source_jobs.specs.Fetching.{AreFetched, IsFirstNotFetched, IsNotFetched, not_got, too_long}

-- the texts from the next one on
pub texts_from : {X : Type 0} (text : X → List ℕ) (all : List X) (i : ℕ) (x : X) → i < length all → x ≡ get_or all i x → map text (drop i all) ≡ text x ∷ map text (drop (i + 1) all)
texts_from text all i x h e = at_drop_more (map text) all i x h ∙ ap (λ y. text y ∷ map text (drop (i + 1) all)) (sym e)

-- memory was wanting
abbrev pub answer_of_memory : Answer
answer_of_memory = told 7 memory_line

-- ---- one file

-- a text as long as was asked for is the front of one that is too long
pub long_text : (s : ShelfSeen) (left : ℕ) (name text : List ℕ) → IfSome (s.told name) (λ t. text ≡ take (left + 1) t) → left < length text → IsNotFetched s left name (told 2 (too_long_line name))
long_text s left name text h long = let whole = longer_text (s.told name) left text h long in too_long whole.0 whole.1 whole.2

pub not_fetched : {s : ShelfSeen} {left : ℕ} {name : List ℕ} {x y : Answer} → (x ≡ y) ⊎ (x ≡ told 7 memory_line) → IsNotFetched s left name y → (x ≡ told 7 memory_line) ⊎ IsNotFetched s left name x
not_fetched {s} {left} {name} (inl e) d = inr (subst (λ (a : Answer). IsNotFetched s left name a) (sym e) d)
not_fetched (inr e) d = inl e

pub not_read : {s : ShelfSeen} {left : ℕ} {name : List ℕ} {x : Answer} → (x ≡ told 7 memory_line) ⊎ ((x ≡ told 5 (read_line name)) × FetchFailed s.count s.count_after s.last name) → (x ≡ told 7 memory_line) ⊎ IsNotFetched s left name x
not_read (inl e) = inl e
not_read {s} {left} {name} (inr f) = inr (subst (λ (a : Answer). IsNotFetched s left name a) (sym f.0) (not_got f.1))

-- ---- several files

-- a shelf that tells the same, and of which fewer faults were counted before
module _ (told before told' told'' : List ℕ → Option (List ℕ)) (first count after : ℕ) (last : Option ShelfFault) (given given' old new : List (List ℕ)) (same : TellsSame told before) (fewer : first ≤ count) where
  abbrev here : ShelfSeen
  here = seen_by before told' count after last given given'

  abbrev there : ShelfSeen
  there = seen_by told told'' first after last old new

  pub one_before : (left : ℕ) (name : List ℕ) (a : Answer) → IsNotFetched here left name a → IsNotFetched there left name a
  one_before left name a (not_got f) = not_got (fails_before told before told' told'' first count after last given given' old new same fewer name f)
  one_before left name a (too_long text t long) = too_long text (told_before told before told' told'' first count after last given given' old new same fewer name text t) long

-- the texts of files so far, with those of the files that are left
pub record IsOnWay (held : List ℕ → Option (List ℕ)) (most : ℕ) (all : List (List ℕ)) (left : ℕ) (rest texts : List (List ℕ)) : Type 0 where
  pub fetched : (ts : List (List ℕ)) → AreFetched held left rest ts → AreFetched held most all (texts ++ ts)
  pub stops : (s : ShelfSeen) (a : Answer) → s.told ≡ held → IsFirstNotFetched s left rest a → IsFirstNotFetched s most all a

pub way_begins : (held : List ℕ → Option (List ℕ)) (most : ℕ) (all : List (List ℕ)) → IsOnWay held most all most all []
way_begins held most all = record { fetched = λ ts h. h; stops = λ s a e h. h }

pub way_next : (held : List ℕ → Option (List ℕ)) (most : ℕ) (all : List (List ℕ)) (left : ℕ) (name : List ℕ) (rest texts : List (List ℕ)) (text : List ℕ) → IsOnWay held most all left (name ∷ rest) texts → IsTold held name text → length text ≤ left → IsOnWay held most all (left - length text) rest (texts ++ (text ∷ []))
way_next held most all left name rest texts text way told short = record {
  fetched = λ ts h. subst (λ (xs : List (List ℕ)). AreFetched held most all xs) (sym (append_assoc texts (text ∷ []) ts)) (way.fetched (text ∷ ts) (told, short, h));
  stops = λ s a e h. way.stops s a e (inr (text, subst (λ (f : List ℕ → Option (List ℕ)). IsTold f name text) (sym e) told, short, h));
}

pub way_ends : (held : List ℕ → Option (List ℕ)) (most : ℕ) (all : List (List ℕ)) (left : ℕ) (texts : List (List ℕ)) → IsOnWay held most all left [] texts → AreFetched held most all texts
way_ends held most all left texts way = subst (λ (xs : List (List ℕ)). AreFetched held most all xs) (append-nil texts) (way.fetched [] tt)

-- ---- texts that were fetched

pub as_many : (held : List ℕ → Option (List ℕ)) (left : ℕ) (names texts : List (List ℕ)) → AreFetched held left names texts → length names ≡ length texts
as_many held left [] [] h = refl
as_many held left [] (t ∷ ts) h = absurd h
as_many held left (n ∷ ns) [] h = absurd h
as_many held left (n ∷ ns) (t ∷ ts) h = ap suc (as_many held (left - length t) ns ts h.2)

pub all_short : (held : List ℕ → Option (List ℕ)) (left : ℕ) (names texts : List (List ℕ)) → left ≤ 1048576 → AreFetched held left names texts → AllByRecursion (λ t. length t ≤ 1048576) texts
all_short held left [] [] few h = tt
all_short held left [] (t ∷ ts) few h = absurd h
all_short held left (n ∷ ns) [] few h = absurd h
all_short held left (n ∷ ns) (t ∷ ts) few h = let short = h.1 in (omega arith, all_short held (left - length t) ns ts (omega arith) h.2)

-- the fetch that stopped the files
pub way_stops : {told before told' : List ℕ → Option (List ℕ)} (told'' : List ℕ → Option (List ℕ)) {first count after : ℕ} {last : Option ShelfFault} {given given' : List (List ℕ)} (old new : List (List ℕ)) {most : ℕ} {all : List (List ℕ)} {left : ℕ} {name : List ℕ} {rest texts : List (List ℕ)} {x : Answer} → TellsSame told before → first ≤ count → IsOnWay told most all left (name ∷ rest) texts → (x ≡ answer_of_memory) ⊎ IsNotFetched (seen_by before told' count after last given given') left name x
    → (x ≡ answer_of_memory) ⊎ IsFirstNotFetched (seen_by told told'' first after last old new) most all x
way_stops told'' old new same fewer way (inl e) = inl e
way_stops {told} {before} {told'} told'' {first} {count} {after} {last} {given} {given'} old new {left = left} {name = name} {x = x} same fewer way (inr d) =
    inr (way.stops (seen_by told told'' first after last old new) x refl (inl (one_before told before told' told'' first count after last given given' old new same fewer left name x d)))

-- the next text, as the shelf told it
pub way_told : {held before : List ℕ → Option (List ℕ)} {most : ℕ} {all : List (List ℕ)} {left : ℕ} {name : List ℕ} {rest texts : List (List ℕ)} (text : List ℕ) → TellsSame held before → IsOnWay held most all left (name ∷ rest) texts → IsTold before name text → length text ≤ left → IsOnWay held most all (left - length text) rest (texts ++ (text ∷ []))
way_told {held} {before} {most} {all} {left} {name} {rest} {texts} text same way t short = way_next held most all left name rest texts text way (subst (λ (o : Option (List ℕ)). IfSome o (λ h. h ≡ text)) (same name) t) short

pub way_same : {held : List ℕ → Option (List ℕ)} {most : ℕ} {all : List (List ℕ)} {left left' : ℕ} {rest texts texts' : List (List ℕ)} → IsOnWay held most all left rest texts → left ≡ left' → texts ≡ texts' → IsOnWay held most all left' rest texts'
way_same {held} {most} {all} {left' = left'} {rest} {texts = texts} way e f = subst (λ (ts : List (List ℕ)). IsOnWay held most all left' rest ts) f (subst (λ (l : ℕ). IsOnWay held most all l rest texts) e way)
