-- The conditions of Jcc, SETcc and CMOVcc by their codes (Intel SDM volume 2, appendix B, table B-10). The codes 10 and 11 test
-- the parity flag, which is not kept.
use Rattle.std.specs.Prelude.{ℕ, ◌-◌, ◌%◌, Bool, ◌||◌, ◌==◌, if◌then◌else◌}
use Rattle.word_arith.specs.Bits.{differ}
use Rattle.alu_width.specs.declared.flags.Flags.{Flags}

-- the condition of an even code: O 0, B 2, Z 4, BE 6, S 8, L 12, LE 14
abbrev pub even_condition : (code : ℕ) → Flags → Bool
even_condition code f =
    if code == 0 then f.of
    else (if code == 2 then f.cf
    else (if code == 4 then f.zf
    else (if code == 6 then f.cf || f.zf
    else (if code == 8 then f.sf
    else (if code == 12 then differ f.sf f.of
    else f.zf || differ f.sf f.of)))))

-- the condition of a code: an odd code is the opposite of the even one below it
unfoldable pub condition : (code : ℕ) → Flags → Bool
condition code f = differ (code % 2 == 1) (even_condition (code - code % 2) f)
