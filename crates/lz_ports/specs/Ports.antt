-- What the outside holds and takes, and when a call on it may fail.
use Rattle.std.specs.Prelude.{◌≡◌, ◌≢◌, ◌≤◌, ◌<◌, ℕ, ◌+◌, ◌-◌, ◌^◌, min, List, ◌++◌, length, take, Option, Some, None, Result, Err, ◌⊎◌}

-- files by name; an absent name has none
abbrev pub Files : Type 0
Files = List ℕ → Option (List ℕ)

-- A count that is kept in 64 bits rose. Where it stands at the last value it counts as risen.
abbrev pub Rose : ℕ → ℕ → Type 0
Rose before now = min (before + 1) (2 ^ 64 - 1) ≤ now

-- the count never falls, and this fault comes only where it rose
pub record HasCause {T E : Type 0} (fault : E) (before now : ℕ) (result : Result T E) : Type 0 where
  pub later : before ≤ now
  pub cause : result ≡ Err fault → Rose before now

-- the name has these bytes now, and all other names are as before
pub record IsPut (name bytes : List ℕ) (old new : Files) : Type 0 where
  pub here : new name ≡ Some bytes
  pub others : (other : List ℕ) → other ≢ name → new other ≡ old other

-- the name is as before or has a prefix of these bytes, and all other names are as before
pub record IsTorn (name bytes : List ℕ) (old new : Files) : Type 0 where
  pub here : (new name ≡ old name) ⊎ ((n : ℕ) × (new name ≡ Some (take n bytes)))
  pub others : (other : List ℕ) → other ≢ name → new other ≡ old other

-- each name is as before
abbrev pub IsSame : Files → Files → Type 0
IsSame old new = (name : List ℕ) → new name ≡ old name

-- contents are told before and after or neither, and where they are told this holds
abbrev pub Told : {A : Type 0} → Option A → Option A → (A → A → Type 0) → Type 0
Told None None P = Unit {0}
Told (Some old) (Some new) P = P old new
Told None (Some new) P = ⊥
Told (Some old) None P = ⊥

-- the bytes that were taken are followed by these
abbrev pub Took : List ℕ → List ℕ → List ℕ → Type 0
Took text old new = new ≡ old ++ text

-- the bytes that were taken are followed by a prefix of these
abbrev pub TookPart : List ℕ → List ℕ → List ℕ → Type 0
TookPart text old new = (n : ℕ) × (new ≡ old ++ take n text)

-- the name's bytes are more than the limit
pub record IsLonger (files : Files) (name : List ℕ) (limit : ℕ) : Type 0 where
  pub bytes : List ℕ
  pub here : files name ≡ Some bytes
  pub longer : limit < length bytes
