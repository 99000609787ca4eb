-- The highest end of parts, and the address behind it.
use Rattle.std.proofs.Common.{◌≡◌, ℕ, ◌+◌, ◌*◌, ◌/◌, ◌%◌, ◌<◌, ◌≤◌, List, [], ◌∷◌, arith}
use Rattle.ev_graph.specs.Memory.{Part}
use Rattle.elf_write.specs.Image.{EndBefore, highest_end, IsCodeAddress}

-- no part ends behind the highest end
pub ends_before : (parts : List Part) (n : ℕ) → highest_end parts ≤ n → EndBefore n parts
ends_before [] n low = tt
ends_before (part ∷ parts) n low = (omega arith, ends_before parts n (omega arith))

-- and every such address is at least there
pub highest_end_le : (parts : List Part) (n : ℕ) → EndBefore n parts → highest_end parts ≤ n
highest_end_le [] n before = omega arith
highest_end_le (part ∷ parts) n before =
    let rest = highest_end_le parts n before.1 in omega (arith, before.0, rest)

least_multiple : (address other end : ℕ) → address % 65536 ≡ 0 → other % 65536 ≡ 0 → address < end + 65536 → end ≤ other → address ≤ other
least_multiple address other end whole multiple below above = omega arith

-- the multiple of 65,536 that is reached by rounding up
pub code_address_is : (parts : List Part) (address : ℕ) → address % 65536 ≡ 0 → highest_end parts ≤ address → address < highest_end parts + 65536
    → IsCodeAddress parts address
code_address_is parts address whole above below = record {
  multiple = whole;
  behind = ends_before parts address above;
  least = λ other multiple before. least_multiple address other (highest_end parts) whole multiple below (highest_end_le parts other before);
}

whole_multiple : (k : ℕ) → k * 0x10000 % 0x10000 ≡ 0
whole_multiple k = omega arith

pub rounded_is : (parts : List Part) (end : ℕ) → end ≡ highest_end parts → IsCodeAddress parts ((end + 0xFFFF) / 0x10000 * 0x10000)
rounded_is parts end same =
    code_address_is parts ((end + 0xFFFF) / 0x10000 * 0x10000) (whole_multiple ((end + 0xFFFF) / 0x10000)) (omega (arith, same)) (omega (arith, same))
