-- FF51..FF55: an address of two bytes is a number of parts side by side.
use mathlib.Core.Bool.{true, false, cond}
use mathlib.Core.List.{List, [], ◌∷◌}
use mathlib.Core.Logic.{◌⊎◌, ⊎_elim}
use mathlib.Core.Path.{◌≡◌, refl, sym, ap, ◌∙◌}
use Prim.Native.Nat.{ℕ, ◌+◌, ◌-◌, ◌*◌, ◌/◌, ◌%◌, ◌^◌, ◌<◌, ◌≤◌}
use native.Mathlib.Omega.{arith}
use lib.Dec.{eqb, ltb, lit<}
use lib.ListN.{length, set}
use borrow.Author.Tests.{eqb-true, eqb-false, eq-eqb, ne_eqb, ltb-true, ltb-false, lt-ltb, le-ltb}
use Rattle.copies.specs.declared.Finish.TheVariants as finish
use Rattle.hdma.specs.Hdma.{kept_below, source_high, source_low, destination_high, destination_low, first_block, starts, running, stopped}
use Rattle.hdma.specs.Hdma.{general_ended}
use Rattle.hdma.specs.PanDocs.{source_of, destination_of}
use Rattle.hdma.specs.declared.Hdma.{Hdma}
use Rattle.hdma.specs.declared.Start.TheVariants.{Set, Block, General}
use Rattle.memory.specs.declared.Memory.{Memory}
use Rattle.registers.specs.Page.{read_register, write_register, shown_as, plain_read}
use Rattle.registers.specs.Register.{register_of}
use Rattle.registers.specs.Transfers.{source_high_put, source_low_put, destination_high_put, destination_low_put, finished}
use Rattle.rules.proofs.Tests.{by_cond, cond_true, cond_false}
use Rattle.pan_docs.specs.Bits.{bit}
use Rattle.pan_docs.specs.Ones.{Every}
use Rattle.pan_docs.specs.Transfers.{source_bits, destination_bits, high_byte, TransferRegisters}
use Rattle.pan_docs.proofs.Bits.{low_mod, bit_none, bit_below, bit_shifted, bit_left, bit_right, bit_weight, is_one, is_zero}
use Rattle.pan_docs.proofs.Page.{size, here, past}

-- bits 7..4 of a byte, in their places
module _ (x j : ℕ) where
  alone : x / 16 % 16 * 16 ≡ x / 16 % 16 * 2 ^ 4 + 0
  alone = omega arith

  nibble_low : j < 4 → bit (x / 16 % 16 * 16) j ≡ 0
  nibble_low h = ap (λ (y : ℕ). bit y j) alone ∙ bit_right (x / 16 % 16) 4 {r = 0} (omega arith) j h ∙ bit_none j

  nibble : 4 ≤ j → j < 8 → bit (x / 16 % 16 * 16) j ≡ bit x j
  nibble h l =
      let e : 4 + (j - 4) ≡ j = omega arith in
      ap (λ (y : ℕ). bit y j) alone
      ∙ bit_left (x / 16 % 16) 4 {r = 0} (omega arith) j h
      ∙ bit_below (x / 16) 4 (j - 4) (omega arith)
      ∙ bit_shifted x 4 (j - 4)
      ∙ ap (λ (i : ℕ). bit x i) e

module _ (high lows j : ℕ) where
  source_right : j < 8 → bit (source_of high lows) j ≡ bit (lows / 16 % 16 * 16) j
  source_right h = bit_right high 8 {r = lows / 16 % 16 * 16} (omega arith) j h

  source_bits_law : bit (source_of high lows) j ≡ source_bits (bit high) (bit lows) j
  source_bits_law =
      by_cond (λ (x : ℕ). bit (source_of high lows) j ≡ x) (ltb j 4) 0 _
      (λ t. let h = ltb-true j 4 t in source_right (omega arith) ∙ nibble_low lows j h)
      (λ f.
      let h = ltb-false j 4 f in
      by_cond (λ (x : ℕ). bit (source_of high lows) j ≡ x) (ltb j 8) (bit lows j) (bit high (j - 8))
      (λ t. let l = ltb-true j 8 t in source_right l ∙ nibble lows j h l)
      (λ g. bit_left high 8 {r = lows / 16 % 16 * 16} (omega arith) j (ltb-false j 8 g)))

  abbrev within : ℕ
  within = high % 32 * 2 ^ 8 + lows / 16 % 16 * 16

  destination_parts : destination_of high lows ≡ 4 * 2 ^ 13 + within
  destination_parts = omega arith

  destination_right : j < 13 → bit (destination_of high lows) j ≡ bit within j
  destination_right h = ap (λ (x : ℕ). bit x j) destination_parts ∙ bit_right 4 13 {r = within} (omega arith) j h

  low_part : j < 8 → bit (destination_of high lows) j ≡ bit (lows / 16 % 16 * 16) j
  low_part h = destination_right (omega arith) ∙ bit_right (high % 32) 8 {r = lows / 16 % 16 * 16} (omega arith) j h

  top_bits : 13 ≤ j → bit 4 (j - 13) ≡ cond (eqb j 15) 1 0
  top_bits h =
      bit_weight 2 (j - 13)
      ∙ by_cond (λ (x : ℕ). cond (eqb (j - 13) 2) 1 0 ≡ x) (eqb j 15) 1 0
      (λ t. let e = eqb-true j 15 t in cond_true _ 1 0 (eq-eqb (j - 13) 2 (omega arith)))
      (λ f. let d = eqb-false j 15 f in cond_false _ 1 0 (ne_eqb (j - 13) 2 (λ e. omega arith)))

  destination_bits_law : bit (destination_of high lows) j ≡ destination_bits (bit high) (bit lows) j
  destination_bits_law =
      by_cond (λ (x : ℕ). bit (destination_of high lows) j ≡ x) (ltb j 4) 0 _
      (λ t. let h = ltb-true j 4 t in low_part (omega arith) ∙ nibble_low lows j h)
      (λ f.
      let h = ltb-false j 4 f in
      by_cond (λ (x : ℕ). bit (destination_of high lows) j ≡ x) (ltb j 8) (bit lows j) _
      (λ t. let l = ltb-true j 8 t in low_part l ∙ nibble lows j h l)
      (λ g.
      let k = ltb-false j 8 g in
      by_cond (λ (x : ℕ). bit (destination_of high lows) j ≡ x) (ltb j 13) (bit high (j - 8)) _
      (λ t.
      let l = ltb-true j 13 t in
      destination_right l ∙ bit_left (high % 32) 8 {r = lows / 16 % 16 * 16} (omega arith) j k ∙ bit_below high 5 (j - 8) (omega arith))
      (λ b.
      let l = ltb-false j 13 b in
      ap (λ (x : ℕ). bit x j) destination_parts ∙ bit_left 4 13 {r = within} (omega arith) j l ∙ top_bits l)))

kept_high : (v : ℕ) → (v < 0x80) ⊎ (0xC0 ≤ v) → kept_below 0xC0 v ≡ v
unfolding kept_below
kept_high v =
    ⊎_elim (λ h. cond_true _ _ _ (lt-ltb v 0x80 h))
    (λ h. cond_false _ _ _ (le-ltb v 0x80 (omega arith)) ∙ cond_false _ _ _ (le-ltb v 0xC0 h))

module _ (m : Memory) (v : ℕ) (e : m.core.banks.colour ≡ true) where
  source_high_law : (v < 0x80) ⊎ (0xC0 ≤ v)
      → (j : ℕ) → bit (write_register m 0x51 v).core.hdma.source j ≡ source_bits (bit v) (bit m.core.hdma.source) j
  unfolding register_of source_high_put source_high
  source_high_law k j =
      ap (λ (n : Memory). bit n.core.hdma.source j) (cond_true m.core.banks.colour _ _ e)
      ∙ ap (λ (x : ℕ). bit (source_of x m.core.hdma.source) j) (kept_high v k)
      ∙ source_bits_law v m.core.hdma.source j

  source_low_law : (j : ℕ) → bit (write_register m 0x52 v).core.hdma.source j ≡ source_bits (high_byte m.core.hdma.source) (bit v) j
  unfolding register_of source_low_put source_low
  source_low_law j =
      ap (λ (n : Memory). bit n.core.hdma.source j) (cond_true m.core.banks.colour _ _ e)
      ∙ source_bits_law (m.core.hdma.source / 256) v j
      ∙ ap (λ (x : ℕ). cond (ltb j 4) 0 (cond (ltb j 8) (bit v j) x)) (bit_shifted m.core.hdma.source 8 (j - 8))

  destination_high_law : (j : ℕ) → bit (write_register m 0x53 v).core.hdma.destination j ≡ destination_bits (bit v) (bit m.core.hdma.destination) j
  unfolding register_of destination_high_put destination_high
  destination_high_law j =
      ap (λ (n : Memory). bit n.core.hdma.destination j) (cond_true m.core.banks.colour _ _ e)
      ∙ destination_bits_law v m.core.hdma.destination j

  destination_low_law : (j : ℕ)
      → bit (write_register m 0x54 v).core.hdma.destination j ≡ destination_bits (high_byte m.core.hdma.destination) (bit v) j
  unfolding register_of destination_low_put destination_low
  destination_low_law j =
      ap (λ (n : Memory). bit n.core.hdma.destination j) (cond_true m.core.banks.colour _ _ e)
      ∙ destination_bits_law (m.core.hdma.destination / 256) v j
      ∙ ap (λ (x : ℕ). cond (ltb j 4) 0 (cond (ltb j 8) (bit v j) (cond (ltb j 13) x (cond (eqb j 15) 1 0))))
      (bit_shifted m.core.hdma.destination 8 (j - 8))

module _ (h : Hdma) (mode v : ℕ) where
  general : h.on ≡ false → bit v 7 ≡ 0 → starts h mode v ≡ General
  unfolding starts
  general o e = rw (o, is_zero v 7 e)

  hblank : h.on ≡ false → bit v 7 ≡ 1 → starts h mode v ≡ cond (eqb mode 0) (Block (running h v)) (Set (running h v))
  unfolding starts first_block
  hblank o e = rw (o, is_one v 7 e)

  still : h.on ≡ true → bit v 7 ≡ 1 → starts h mode v ≡ Set (running h v)
  unfolding starts
  still o e = rw (o, is_one v 7 e)

  stops : h.on ≡ true → bit v 7 ≡ 0 → starts h mode v ≡ Set (stopped h)
  unfolding starts
  stops o e = rw (o, is_zero v 7 e)

-- five bytes of FF
done : (m : Memory) (v : ℕ) (sound : List ℕ) → length m.page ≡ 256
    → Every (λ at. read_register (finished m finish.General v) sound at ≡ 0xFF) (0x55 ∷ 0x54 ∷ 0x53 ∷ 0x52 ∷ 0x51 ∷ [])
unfolding finished general_ended read_register shown_as plain_read
done m v sound l =
    let a = set m.page 0x51 0xFF in
    let b = set a 0x52 0xFF in
    let c = set b 0x53 0xFF in
    let d = set c 0x54 0xFF in
    let la = size m.page 0x51 0xFF l in
    let lb = size a 0x52 0xFF la in
    let lc = size b 0x53 0xFF lb in (
      here d 0x55 0xFF (lit< tt) (size c 0x54 0xFF lc),
      (
        past d 0x55 0xFF (λ e. omega arith) (here c 0x54 0xFF (lit< tt) lc),
        (
          past d 0x55 0xFF (λ e. omega arith) (past c 0x54 0xFF (λ e. omega arith) (here b 0x53 0xFF (lit< tt) lb)),
          (
            past d 0x55 0xFF (λ e. omega arith)
                (past c 0x54 0xFF (λ e. omega arith) (past b 0x53 0xFF (λ e. omega arith) (here a 0x52 0xFF (lit< tt) la))),
            (
              past d 0x55 0xFF (λ e. omega arith)
                  (past c 0x54 0xFF (λ e. omega arith)
                  (past b 0x53 0xFF (λ e. omega arith) (past a 0x52 0xFF (λ e. omega arith) (here m.page 0x51 0xFF (lit< tt) l)))),
              tt,
            ),
          ),
        ),
      ),
    )

pub transfer_registers : TransferRegisters
transfer_registers =
    record {
      source_high_law = source_high_law;
      source_low_law = source_low_law;
      destination_high_law = destination_high_law;
      destination_low_law = destination_low_law;
      length = λ v. ap (λ (x : ℕ). (x + 1) * 16) (sym (low_mod 7 v));
      general = general;
      ends_so = λ m v. refl;
      done = done;
      hblank = hblank;
      still = still;
      running_on = λ h v. record { is = refl; shows = sym (low_mod 7 v); source = refl; destination = refl };
      stops = stops;
      stopped_off = λ h. record { is = refl; shows = refl; source = refl; destination = refl };
    }
