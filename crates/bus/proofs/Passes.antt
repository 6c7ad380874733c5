-- A call that nothing refuses: the state is in range and the lengths are right, which is what the calls within ask for.
use mathlib.Core.Bool.{Bool, true, false, cond, ◌&&◌}
use mathlib.Core.List.{List, []}
use mathlib.Core.Path.{◌≡◌, refl, sym}
use Prim.Native.Nat.{ℕ, ◌*◌, ◌+◌, ◌<◌, ◌≤◌}
use native.Mathlib.Omega.{arith}
use lib.Dec.{eqb, leb, ltb}
use lib.ListN.{length}
use borrow.Author.Tests.{eqb-true, leb-true, ltb-true}
use Rattle.mbc.specs.Mbc.{rom_len, ram_len}
use Rattle.memory.specs.Ranges.{vram_len, wram_len, sound_len}
use Rattle.memory.specs.World.{world, fixed}
use Rattle.memory.specs.declared.Core.{Core}
use Rattle.memory.specs.declared.Memory.{Memory}
use Rattle.mmu.specs.Access.{Ready}
use Rattle.rules.proofs.Tests.{both_true, passes, untrue}
use Rattle.savelog.specs.Log.{log_limit}
use Rattle.refusals.specs.Refusal.{lengths_fit, lengths_refused, log_refused, read_refused, lent_refused, write_refused, vram_length_refused, vram_refused, has_bank}
use Rattle.refusals.proofs.Answers.{both_pass, state_passes, range_state}

pub lengths_pass : (k : Core) (rom vram wram save sound : ℕ) → lengths_refused k rom vram wram save sound ≡ 0
    → (rom ≡ rom_len k.cartridge)
    × (vram ≡ vram_len k.banks.colour)
    × (wram ≡ wram_len k.banks.colour)
    × (save ≡ ram_len k.cartridge k.mapper)
    × (sound ≡ sound_len)
unfolding lengths_refused lengths_fit
lengths_pass k rom vram wram save sound e =
    let a = both_true (eqb rom (rom_len k.cartridge)) _ (passes _ 4 (omega arith) e) in
    let b = both_true (eqb vram (vram_len k.banks.colour)) _ a.1 in
    let c = both_true (eqb wram (wram_len k.banks.colour)) _ b.1 in
    let d = both_true (eqb save (ram_len k.cartridge k.mapper)) _ c.1 in
    (eqb-true rom _ a.0, eqb-true vram _ b.0, eqb-true wram _ c.0, eqb-true save _ d.0, eqb-true sound 48 d.1)

module _ (rom sound : List ℕ) (m : Memory) (v w s : List ℕ) where
  pub read_passes : read_refused m (length rom) (length v) (length w) (length s) (length sound) ≡ 0
      → Ready (fixed rom sound) (world m v w s [])
  unfolding read_refused
  read_passes e =
      let p = both_pass _ _ e in
      let l = lengths_pass _ _ _ _ _ _ p.1 in
      record {
        holds = record {
          state = range_state _ _ (state_passes _ _ p.0);
          vram = l.1;
          wram = l.2;
          save = l.3;
          log = omega arith;
        };
        rom = l.0;
        sound = l.4;
      }

  pub write_passes : (g : List ℕ) → write_refused m (length rom) (length v) (length w) (length s) (length sound) (length g) ≡ 0
      → Ready (fixed rom sound) (world m v w s g)
  unfolding write_refused lent_refused log_refused
  write_passes g e =
      let p = both_pass _ _ e in
      let q = both_pass (lengths_refused _ _ _ _ _ _) _ p.1 in
      let l = lengths_pass _ _ _ _ _ _ q.0 in
      record {
        holds = record {
          state = range_state _ _ (state_passes _ _ p.0);
          vram = l.1;
          wram = l.2;
          save = l.3;
          log = leb-true (length g) log_limit (passes _ 4 (omega arith) q.1);
        };
        rom = l.0;
        sound = l.4;
      }

-- a bank that the machine has lies within its video memory
bank_fits : (bank : ℕ) (colour a b : Bool) → a ≡ eqb bank 0 → b ≡ eqb bank 1 → cond a true (cond b colour false) ≡ true
    → bank * 0x2000 + 0x2000 ≤ vram_len colour
bank_fits bank true true b e f h = omega (arith, eqb-true bank 0 (sym e))
bank_fits bank false true b e f h = omega (arith, eqb-true bank 0 (sym e))
bank_fits bank true false true e f h = omega (arith, eqb-true bank 1 (sym f))
bank_fits bank false false true e f h = untrue h
bank_fits bank colour false false e f h = untrue h

-- two tests, either of which would have refused by 7
both_sides : (a b : Bool) → ◌≡◌ {A = ℕ} (cond a (cond b 0 7) 7) 0 → (a ≡ true) × (b ≡ true)
both_sides true true e = (refl, refl)
both_sides true false e = absurd (omega arith)
both_sides false b e = absurd (omega arith)

pub vram_passes : (colour : Bool) (n i bank : ℕ) → vram_length_refused colour n ≡ 0 → vram_refused colour i bank ≡ 0
    → ((0x8000 ≤ i) × (i < 0xA000)) × (bank * 0x2000 + 0x2000 ≤ n)
unfolding vram_length_refused vram_refused has_bank
vram_passes colour n i bank e f =
    let p = both_sides (cond (eqb bank 0) true (cond (eqb bank 1) colour false)) (leb 0x8000 i && ltb i 0xA000) f in
    let q = both_true (leb 0x8000 i) (ltb i 0xA000) p.1 in
    let l = eqb-true n (vram_len colour) (passes _ 4 (omega arith) e) in (
      (leb-true 0x8000 i q.0, ltb-true i 0xA000 q.1),
      omega (arith, l, bank_fits bank colour (eqb bank 0) (eqb bank 1) refl refl p.0),
    )
