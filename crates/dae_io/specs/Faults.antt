-- Faults of files and streams: how many there were, and what the last one was.
use Rattle.std.specs.Prelude.{◌≡◌, ℕ, zero, suc, ◌+◌, ◌-◌, ◌^◌, ◌≤◌, min, List, Option, Some, refl}
use Rattle.std.specs.Coded.{Coded, code_by, coded×, coded_ℕ, coded_list, coded_option}

-- a count of 64 bits went up, or stands at its last value
abbrev pub Rose : ℕ → ℕ → Type 0
Rose old new = min (old + 1) (2 ^ 64 - 1) ≤ new

-- a fault of a shelf: it failed to fetch the text of a name, or to keep a text under a name
pub data ShelfFault : Type 0 where
  Fetch : (name : List ℕ) → ShelfFault
  Keep : (name : List ℕ) → ShelfFault

-- the last fault is the fetch of this name
abbrev pub fetch_of : List ℕ → Option ShelfFault
fetch_of name = Some (Fetch name)

-- the last fault is the keep of this name
abbrev pub keep_of : List ℕ → Option ShelfFault
keep_of name = Some (Keep name)

-- a count of faults went up, and the last fault is the fetch of this name
abbrev pub FetchFailed : ℕ → ℕ → Option ShelfFault → List ℕ → Type 0
FetchFailed old new last name = Rose old new × (last ≡ fetch_of name)

-- ---- how the logic stores a fault: as a number and a name

abbrev to_parts : ShelfFault → ℕ × List ℕ
to_parts (Fetch name) = (0, name)
to_parts (Keep name) = (1, name)

abbrev from_parts : ℕ × List ℕ → ShelfFault
from_parts (zero, name) = Fetch name
from_parts (suc n, name) = Keep name

pub from_parts-to_parts : (fault : ShelfFault) → from_parts (to_parts fault) ≡ fault
from_parts-to_parts (Fetch name) = refl
from_parts-to_parts (Keep name) = refl

abbrev pub fault_code : Coded (Option ShelfFault)
fault_code = coded_option (code_by (ℕ × List ℕ) (coded× coded_ℕ (coded_list coded_ℕ)) to_parts from_parts from_parts-to_parts)
