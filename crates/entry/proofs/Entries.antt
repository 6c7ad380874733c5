-- How an entry answers, by what the image gave and what the call gave.
use mathlib.Core.List.{List, []}
use mathlib.Core.Path.{◌≡◌, ap, ◌∙◌}
use Prim.Native.Nat.{ℕ, ◌<◌, ◌≤◌}
use lib.ListN.{length}
use borrow.Author.Tests.{ne_eqb, lt-ltb, le-ltb}
use Rattle.bus.specs.Calls.{read_byte_call, read_word_call, read_cgb_lcd_ram_call}
use Rattle.bus.specs.Fresh.{Begun, beginning}
use Rattle.dispatch.proofs.Starts.{begun_refused}
use Rattle.dispatch.specs.Step.{step, state_step}
use Rattle.dispatch.specs.declared.Call.{Call}
use Rattle.dispatch.specs.declared.Call.TheVariants as call
use Rattle.dispatch.specs.declared.Performed.{Performed}
use Rattle.dispatch.specs.declared.StateCall.{StateCall}
use Rattle.image.specs.Layout.{image_len, image_of}
use Rattle.image.specs.Load.{load_call}
use Rattle.image.specs.Load.{Loaded}
use Rattle.mbc.specs.Mbc as mbc
use Rattle.mbc.specs.Answers.{ReadByte}
use Rattle.mbc.specs.Answers.{WriteByte}
use Rattle.memory.specs.World.{world, Fixed, with_mapper}
use Rattle.memory.specs.declared.Memory.{Memory}
use Rattle.refusals.specs.Answers.{Byte}
use Rattle.refusals.specs.Answers.{Word}
use Rattle.entry.specs.Entry.{
  changed,
  encoded,
  state_entry,
  given,
  ask_entry,
  read_entry,
  fresh,
  fresh_entry,
  mapper_read_entry,
  answer_number,
  mapped,
  encoded_mapper,
  mapper_write_entry,
}

module _ (i : List ℕ) {d : Loaded} (e : d ≡ load_call i) where
  -- an image that is refused
  module _ (h : d.number ≡ 0 → ⊥) where
    pub unloaded_state : (c : StateCall) → changed d.number i ≡ state_entry i c
    unfolding state_entry
    unloaded_state c = rw (← e, ne_eqb d.number 0 h)

    pub unloaded_ask : (c : StateCall) → given d.number 0 ≡ ask_entry i c
    unfolding ask_entry
    unloaded_ask c = rw (← e, ne_eqb d.number 0 h)

    pub unloaded_read : (x : Fixed) (v w s : List ℕ) (c : Call) → given d.number 0 ≡ read_entry x i v w s c
    unfolding read_entry
    unloaded_read x v w s c = rw (← e, ne_eqb d.number 0 h)

    pub unloaded_mapper_read : (rom s : List ℕ) (k : ℕ) → given d.number 0 ≡ mapper_read_entry i rom s k
    unfolding mapper_read_entry
    unloaded_mapper_read rom s k = rw (← e, ne_eqb d.number 0 h)

    pub unloaded_mapper : (k v : ℕ) → mapped d.number 0 i ≡ mapper_write_entry i k v
    unfolding mapper_write_entry
    unloaded_mapper k v = rw (← e, ne_eqb d.number 0 h)

  -- one that is loaded
  module _ (z : d.number ≡ 0) where
    pub asked : (c : StateCall) {p : Performed} → p ≡ state_step d.state c → given p.number p.value ≡ ask_entry i c
    unfolding ask_entry
    asked c f = rw (← e, z, ← f)

    module _ (c : StateCall) {p : Performed} (f : p ≡ state_step d.state c) where
      pub refused_state_law : 1 < p.number → changed p.number i ≡ state_entry i c
      unfolding state_entry encoded
      refused_state_law h = rw (← e, z, ← f, lt-ltb 1 p.number h)

      pub done_state : p.number ≤ 1 → {j : List ℕ} → j ≡ image_of p.memory → changed p.number j ≡ state_entry i c
      unfolding state_entry encoded
      done_state h g = rw (← e, z, ← f, le-ltb 1 p.number h, g)

    pub mapper_read : (rom s : List ℕ) (k : ℕ) {b : ReadByte} → b ≡ mbc.read_byte d.state.core.cartridge d.state.core.mapper rom s k
        → given b.number b.value ≡ mapper_read_entry i rom s k
    unfolding mapper_read_entry
    mapper_read rom s k f = rw (← e, z, f)

    module _ (k v : ℕ) {b : WriteByte} (f : b ≡ mbc.write_byte d.state.core.cartridge d.state.core.mapper k v) where
      pub refused_mapper : (b.number ≡ 0 → ⊥) → mapped b.number 0 i ≡ mapper_write_entry i k v
      unfolding mapper_write_entry encoded_mapper
      refused_mapper h = rw (← e, z, ← f, ne_eqb b.number 0 h)

      pub done_mapper : b.number ≡ 0 → {n : ℕ} {j : List ℕ} {m : Memory} → n ≡ answer_number b.answer → m ≡ with_mapper d.state b.mapper
          → j ≡ image_of m → mapped b.number n j ≡ mapper_write_entry i k v
      unfolding mapper_write_entry encoded_mapper
      done_mapper h a g l = rw (← e, z, ← f, h, a, l, g)

    module _ (x : Fixed) (v w s : List ℕ) where
      pub byte_read : (k : ℕ) {b : Byte} → b ≡ read_byte_call x (world d.state v w s []) k
          → given b.number b.value ≡ read_entry x i v w s (call.ReadByte k)
      unfolding read_entry step
      byte_read k f = rw (← e, z, f)

      pub word_read : (k : ℕ) {b : Word} → b ≡ read_word_call x (world d.state v w s []) k
          → given b.number b.value ≡ read_entry x i v w s (call.ReadWord k)
      unfolding read_entry step
      word_read k f = rw (← e, z, f)

      pub lcd_ram_read : (k bank : ℕ) {b : Byte} → b ≡ read_cgb_lcd_ram_call (world d.state v w s []) k bank
          → given b.number b.value ≡ read_entry x i v w s (call.ReadCgbLcdRam k bank)
      unfolding read_entry step
      lcd_ram_read k bank f = rw (← e, z, f)

-- a fresh bus

module _ (i v w : List ℕ) where
  pub fresh_length : (b : Begun) → (length i ≡ image_len → ⊥) → fresh 4 i v w ≡ fresh_entry i v w b
  unfolding fresh_entry
  fresh_length b h = rw (ne_eqb (length i) image_len h)

  module _ (h : length i ≡ image_len) (n : ℕ) (m : Memory) {b : Begun} (e : b ≡ beginning n m v w) where
    pub fresh_refused : (b.number ≡ 0 → ⊥) → fresh b.number i b.vram b.wram ≡ fresh_entry i v w (beginning n m v w)
    unfolding fresh_entry
    fresh_refused z =
        let r = e ∙ begun_refused n m v w (λ k. z (ap (λ (a : Begun). a.number) e ∙ k)) in
        let p : b.vram ≡ v = ap (λ (a : Begun). a.vram) r in
        let q : b.wram ≡ w = ap (λ (a : Begun). a.wram) r in
        rw (← e, h, ne_eqb b.number 0 z, p, q)

    pub fresh_done : b.number ≡ 0 → {j : List ℕ} → j ≡ image_of b.state
        → fresh b.number j b.vram b.wram ≡ fresh_entry i v w (beginning n m v w)
    unfolding fresh_entry
    fresh_done z g = rw (← e, h, z, g)
