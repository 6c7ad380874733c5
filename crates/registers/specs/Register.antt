-- Which register a byte write of FF00 + at is to: the arms of the Rust's `write_byte` (mmu/mod.rs). Document 01, "The bus", has what each stores; what FF46
-- and FF55 copy is in specs/Transfers.antt.
use Rattle.std.specs.Prelude.{cond, ℕ, ◌%◌, eqb, ltb}
use Rattle.std.specs.Int.Bits.{bit_or}
use Rattle.registers.specs.PanDocs.{div_reset}
use Rattle.registers.specs.declared.register.Register.{Register}
use Rattle.registers.specs.declared.register.Register.TheVariants as is

-- FF10..FF3F is the sound window; of the others those of which more is stored than a byte of the page
unfoldable pub register_of : ℕ → Register
register_of at =
    cond (ltb at 0x10) is.Byte
    (cond (ltb at 0x40) is.Sound
    (cond (eqb at 0x40) is.Control
    (cond (eqb at 0x41) is.Status
    (cond (eqb at 0x44) is.Line
    (cond (eqb at 0x45) is.Compare
    (cond (eqb at 0x4D) is.Speed
    (cond (eqb at 0x4F) is.VramBank
    (cond (eqb at 0x51) is.SourceHigh
    (cond (eqb at 0x52) is.SourceLow
    (cond (eqb at 0x53) is.DestinationHigh
    (cond (eqb at 0x54) is.DestinationLow
    (cond (eqb at 0x55) is.Start
    (cond (eqb at 0x68) is.BackgroundIndex
    (cond (eqb at 0x69) is.BackgroundData
    (cond (eqb at 0x6A) is.SpriteIndex
    (cond (eqb at 0x6B) is.SpriteData
    (cond (eqb at 0x70) is.WramBank
    is.Byte)))))))))))))))))

-- what such a byte is stored as: FF04 as 0, FF0F and FFFF in 5 bits, FF6C with FE, FF75 with 8F
unfoldable pub byte_as : ℕ → ℕ → ℕ
byte_as at v =
    cond (eqb at 0x04) div_reset
    (cond (eqb at 0x0F) (v % 32)
    (cond (eqb at 0x6C) (bit_or v 0xFE)
    (cond (eqb at 0x75) (bit_or v 0x8F)
    (cond (eqb at 0xFF) (v % 32)
    v))))
