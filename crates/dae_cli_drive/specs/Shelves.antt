-- What is seen of a shelf over a job.
use Rattle.std.specs.Prelude.{◌≡◌, ◌⊎◌, ℕ, List, [], ◌∷◌, ◌++◌, Option, IfSome, None, Some, if◌then◌else◌}
use Rattle.dae_io.specs.Faults.{FetchFailed, Rose, ShelfFault, keep_of}
use Rattle.dae_io.specs.Listed.{first_text}
use Rattle.dae_io.specs.Told.{IsSilent, TellsSame}
use Rattle.dae_io.specs.declared.calm.CalmShelf.{CalmShelf}

-- what it tells of its names before and after, its counts of faults before and after, its last fault after, and the bytes of
-- each keep so far, before and after
pub record ShelfSeen : Type 0 where
  pub told : List ℕ → Option (List ℕ)
  pub told_after : List ℕ → Option (List ℕ)
  pub count : ℕ
  pub count_after : ℕ
  pub last : Option ShelfFault
  pub given : List (List ℕ)
  pub given_after : List (List ℕ)

-- what is seen of a shelf from one state to another, by what shelves of its kind tell, count and were given
abbrev pub shelf_seen : {Shelf : Type 0} → (told : Shelf → List ℕ → Option (List ℕ))
    → (count : Shelf → ℕ) → (last : Shelf → Option ShelfFault)
    → (given : Shelf → List (List ℕ)) → (before after : Shelf) → ShelfSeen
shelf_seen told count last given before after = record {
  told = told before;
  told_after = told after;
  count = count before;
  count_after = count after;
  last = last after;
  given = given before;
  given_after = given after;
}

-- what a shelf tells that never fails: the first text under a name, or nothing where it dropped what it was to keep
abbrev pub calm_told : CalmShelf → List ℕ → Option (List ℕ)
calm_told shelf name = if shelf.dropped then None else Some (first_text shelf.texts.now name)

-- the text of this name is what the shelf tells of it, where it tells
abbrev pub IsTold : (List ℕ → Option (List ℕ)) → (name text : List ℕ) → Type 0
IsTold told name text = IfSome (told name) (λ held. held ≡ text)

-- the last fault is the fetch of this name
abbrev pub FailsToFetch : ShelfSeen → List ℕ → Type 0
FailsToFetch s name = FetchFailed s.count s.count_after s.last name

-- the last fault is the keep of this name
pub record FailsToKeep (s : ShelfSeen) (name : List ℕ) : Type 0 where
  pub rose : Rose s.count s.count_after
  pub last : s.last ≡ keep_of name

-- the name holds the bytes now, where the shelf still tells what it holds
abbrev pub Keeps : ShelfSeen → (name bytes : List ℕ) → Type 0
Keeps s name bytes = IsSilent s.told_after ⊎ (s.told_after name ≡ Some bytes)

-- nothing was to be kept, and each name tells what it told
pub record KeepsNothing (s : ShelfSeen) : Type 0 where
  pub given : s.given_after ≡ s.given
  pub told : TellsSame s.told s.told_after

-- just these bytes were to be kept, once
abbrev pub KeepsOnce : ShelfSeen → (bytes : List ℕ) → Type 0
KeepsOnce s bytes = s.given_after ≡ s.given ++ bytes ∷ []
