-- What a program does from a state on, as a tree: each value that comes from outside chooses a branch.
use Rattle.std.specs.Prelude.{ℕ, zero, suc, ◌<◌, List, [], ◌++◌}
use Rattle.ev_graph.specs.declared.events.Item.{Item}
use Rattle.ev_graph.specs.declared.events.End.{End}

-- What may come, result by result R. A tree comes to a result, begins an instruction (what is counted), or acts:
-- one indivisible act takes a value below `range` from outside, makes items and goes on, by that value.
pub data Tree (R : Type 0) : Type 0 where
  Gives : R → Tree R
  Begins : Tree R → Tree R
  Acts : (range : ℕ) → (made : ℕ → List Item) → (next : ℕ → Tree R) → Tree R

-- Where a path through a tree stops: it is cut somewhere, or has come to a result.
pub data Point (R : Type 0) : Type 0 where
  Cut : Point R
  At : R → Point R

-- A path from the root of a tree: the items made on it, where it stops, and how many instructions it begins.
-- It may be cut before and after each act, and never within one, so never between the halves of a locked pair.
pub data Path {R : Type 0} : Tree R → List Item → Point R → ℕ → Type 0 where
  cut : {t : Tree R} → Path t [] Cut 0
  gives : {r : R} → Path (Gives r) [] (At r) 0
  begins : {t : Tree R} {items : List Item} {p : Point R} {n : ℕ} → Path t items p n → Path (Begins t) items p (suc n)
  acts : {range : ℕ} {made : ℕ → List Item} {next : ℕ → Tree R} {items : List Item} {p : Point R} {n : ℕ}
      (value : ℕ) → value < range → Path (next value) items p n → Path (Acts range made next) (made value ++ items) p n

-- what comes after a step: the next state, or the end of the thread
pub data Next (S : Type 0) : Type 0 where
  Goes : S → Next S
  Stops : End → Next S

infixl 10 ◌then◌
-- a tree, and then another from the state to which it comes
abbrev pub ◌then◌ : {S T : Type 0} → Tree (Next S) → (S → Tree (Next T)) → Tree (Next T)
(Gives (Goes s)) then f = f s
(Gives (Stops end)) then f = Gives (Stops end)
(Begins t) then f = Begins (t then f)
(Acts range made next) then f = Acts range made (λ v. next v then f)

-- a tree that begins n instructions before it does anything else
abbrev pub ticks : {R : Type 0} → ℕ → Tree R → Tree R
ticks zero t = t
ticks (suc n) t = Begins (ticks n t)
