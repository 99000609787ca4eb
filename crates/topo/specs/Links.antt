-- Links through the edges that lead to one number.
use Rattle.std.specs.Prelude.{◌≡◌, ◌≤◌, ◌<◌, ℕ, suc, List, Some, slice_get, length}
use Rattle.topo.specs.declared.edge.Edge.{Edge}

-- the link names the last edge to v among the first k, or 0 where none of them leads to v
pub record IsLast (edges : List Edge) (v k link : ℕ) : Type 0 where
  pub within : link ≤ k
  pub leads : (j : ℕ) (e : Edge) → link ≡ suc j → slice_get edges j ≡ Some e → e.to ≡ v
  pub last : (j : ℕ) (e : Edge) → j < k → slice_get edges j ≡ Some e → e.to ≡ v → j < link

-- each edge has the link of the last before it that leads to the same number
abbrev pub AreLinked : List Edge → List ℕ → Type 0
AreLinked edges before = (j link : ℕ) (e : Edge) → slice_get before j ≡ Some link → slice_get edges j ≡ Some e → IsLast edges e.to j link

-- the links of the first k edges, for numbers below n
pub record AreLinks (n : ℕ) (edges : List Edge) (k : ℕ) (last before : List ℕ) : Type 0 where
  pub one_a_number : length last ≡ n
  pub one_an_edge : length before ≡ k
  pub lasts : (v link : ℕ) → slice_get last v ≡ Some link → IsLast edges v k link
  pub linked : AreLinked edges before
