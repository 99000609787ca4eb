-- Where a path goes on from an instruction, as the search has it.
use Rattle.std.specs.Prelude.{ℕ, ◌^◌, List, [], ◌∷◌}
use Rattle.flag_use.specs.declared.onward.Onward.{Onward}
use Rattle.flag_use.specs.declared.onward.Onward.TheVariants.{Nowhere, To, Either, ToSites}

-- an address above all code, which stands for every return site
abbrev pub hub : ℕ
hub = 2 ^ 60

-- the addresses
abbrev pub addresses_in : Onward → List ℕ
addresses_in Nowhere = []
addresses_in (To a) = a ∷ []
addresses_in (Either a b) = a ∷ b ∷ []
addresses_in ToSites = hub ∷ []
