-- The tree by which a return address is looked up among the return sites.
use Rattle.std.specs.Prelude.{◌≡◌, ◌≤◌, ◌<◌, ℕ, ◌+◌, ◌*◌, ◌^◌, ◌==◌, nat_lt, max, Bool, false, List, [], ◌∷◌, length, if◌then◌else◌}
use Rattle.std.specs.List.{AllByRecursion}
use Rattle.cfg_walk.specs.Machine.{has_address}

-- No site; one site; or those less than a site and those from it on.
pub data Search : Type 0 where
  Nowhere : Search
  Leaf : (site : ℕ) → Search
  Fork : (site : ℕ) → (below above : Search) → Search

-- whether the tree has an address
abbrev pub finds : Search → (address : ℕ) → Bool
finds Nowhere address = false
finds (Leaf site) address = address == site
finds (Fork site below above) address = if nat_lt address site then finds below address else finds above address

-- how many words the tree takes
abbrev pub search_size : Search → ℕ
search_size Nowhere = 1
search_size (Leaf site) = 8
search_size (Fork site below above) = 7 + (search_size below + search_size above)

-- how many of them are executed at most
abbrev pub depth : Search → ℕ
depth Nowhere = 1
depth (Leaf site) = 7
depth (Fork site below above) = 7 + max (depth below) (depth above)

-- each site of the tree has 64 bits
abbrev pub Fits : Search → Type 0
Fits Nowhere = Unit {0}
Fits (Leaf site) = site < 2 ^ 64
Fits (Fork site below above) = (site < 2 ^ 64) × Fits below × Fits above

-- each number is below those behind it
abbrev pub Rise : List ℕ → Type 0
Rise [] = Unit {0}
Rise (x ∷ xs) = AllByRecursion (λ y. x < y) xs × Rise xs

-- The tree has just these sites. It takes 15 words a site, less 7, and is as deep as a tree by halves.
pub record IsSearchOf (sites : List ℕ) (t : Search) : Type 0 where
  pub fits : Fits t
  pub has : (address : ℕ) → finds t address ≡ has_address sites address
  pub shallow : (n : ℕ) → length sites ≤ 2 ^ n → depth t ≤ 7 + 7 * n
  pub small : search_size t ≤ 15 * length sites + 1
  pub size : 0 < length sites → search_size t + 7 ≡ 15 * length sites
