-- What is read back from bytes that were put together.
use Rattle.std.proofs.Common.{◌≡◌, ℕ, ◌+◌, List, ◌++◌, length, refl}
use Rattle.std.proofs.Math.Seq.{drop-append-add, drop-append_seam, take-append_seam}
use Rattle.elf_read.specs.Bytes.{number_at, range_at}

-- what lies behind the front is read from what stands there
pub number_behind : (xs ys : List ℕ) (offset size : ℕ) → number_at (xs ++ ys) (length xs + offset) size ≡ number_at ys offset size
unfolding number_at
number_behind xs ys offset size = rw (drop-append-add xs ys offset) refl

pub range_behind : (xs ys : List ℕ) (offset size : ℕ) → range_at (xs ++ ys) (length xs + offset) size ≡ range_at ys offset size
range_behind xs ys offset size = rw (drop-append-add xs ys offset) refl

-- a piece is read where it stands
pub range_here : (xs ys zs : List ℕ) → range_at (xs ++ (ys ++ zs)) (length xs) (length ys) ≡ ys
range_here xs ys zs = rw (drop-append_seam xs (ys ++ zs)) (take-append_seam ys zs)

-- the same of bytes that are known to be a front and what follows
pub number_there : (bytes xs ys : List ℕ) (place offset size : ℕ) → bytes ≡ xs ++ ys → place ≡ length xs
    → number_at bytes (place + offset) size ≡ number_at ys offset size
number_there bytes xs ys place offset size whole at = rw (whole, at) (number_behind xs ys offset size)

pub range_there : (bytes xs ys : List ℕ) (place offset size : ℕ) → bytes ≡ xs ++ ys → place ≡ length xs
    → range_at bytes (place + offset) size ≡ range_at ys offset size
range_there bytes xs ys place offset size whole at = rw (whole, at) (range_behind xs ys offset size)
