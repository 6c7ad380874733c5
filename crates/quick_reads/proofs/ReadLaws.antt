-- How a read answers: by its number, or by the byte or word.
use Rattle.std.proofs.Common.{◌≡◌, ℕ, ◌+◌, ◌*◌, ◌<◌, ◌≤◌, eqb, List, [], length, get_or, sym, refl, ap, ◌∙◌, eqb-true, ne_eqb}
use Rattle.bus.proofs.Passes.{read_passes, vram_passes}
use Rattle.dispatch.specs.declared.Call.{Call}
use Rattle.dispatch.specs.declared.Call.TheVariants as call
use Rattle.image.proofs.GroupPatches.{loaded_core}
use Rattle.image.proofs.OpenLaws.{load_range}
use Rattle.image.specs.Load.{banks_of, load_call}
use Rattle.image.specs.Patches.{fields, MapperFits, RestFits}
use Rattle.memory.specs.Ranges.{sound_len}
use Rattle.memory.specs.World.{world, Fixed, fixed}
use Rattle.memory.specs.declared.Core.{Core}
use Rattle.mmu.specs.Access.{Ready, read_byte, read_word}
use Rattle.mmu.specs.PanDocs.{vram_at}
use Rattle.packing.specs.Packing.{Below}
use Rattle.refusals.proofs.Answers.{both_pass}
use Rattle.refusals.specs.Answers.{byte_given, word_given}
use Rattle.refusals.specs.Refusal.{or_else, state_refused, refused_state, refused_read, vram_length_refused, vram_refused}
use Rattle.rules.proofs.Tests.{by_cond}
use Rattle.take_bytes.proofs.ByteLaws.{surely_loaded, surely_passes}
use Rattle.entry.specs.Entry.{given, read_entry}
use Rattle.entry.proofs.Entries.{unloaded_read, byte_read, word_read, lcd_ram_read}

-- how a byte or a word is given, by what its refusal is

module _ {n k : ℕ} (e : n ≡ k) where
  module _ (h : n ≡ 0 → ⊥) where
    refused_byte : (v : ℕ) → record { number = n; value = 0 } ≡ byte_given k v
    unfolding byte_given
    refused_byte v = rw (← e, ne_eqb n 0 h)

    refused_word : (v : ℕ) → record { number = n; value = 0 } ≡ word_given k v
    unfolding word_given
    refused_word v = rw (← e, ne_eqb n 0 h)

  module _ (h : n ≡ 0) where
    accepted_byte : {b a : ℕ} → b ≡ a → record { number = 0; value = b } ≡ byte_given k a
    unfolding byte_given
    accepted_byte f = rw (← e, h, f)

    accepted_word : {b a : ℕ} → b ≡ a → record { number = 0; value = b } ≡ word_given k a
    unfolding word_given
    accepted_word f = rw (← e, h, f)

-- the answer

module _ (x : Fixed) (i v w s : List ℕ) {n : ℕ}
    (e : n ≡ or_else (load_call i).number (refused_read x (world (load_call i).state v w s []))) where
  refused_read_law : (c : Call)
      → ((load_call i).number ≡ 0
      → (refused_read x (world (load_call i).state v w s []) ≡ 0 → ⊥)
      → given (refused_read x (world (load_call i).state v w s [])) 0 ≡ read_entry x i v w s c)
      → (n ≡ 0 → ⊥)
      → given n 0 ≡ read_entry x i v w s c
  unfolding or_else
  refused_read_law c f h =
      rw e
      (by_cond (λ (k : ℕ). (k ≡ 0 → ⊥) → given k 0 ≡ read_entry x i v w s c) (eqb (load_call i).number 0)
      (refused_read x (world (load_call i).state v w s [])) (load_call i).number (λ t. f (eqb-true (load_call i).number 0 t))
      (λ t g. unloaded_read i refl g x v w s c) (λ z. h (e ∙ z)))

  pub refused_byte_read : (k : ℕ) → (n ≡ 0 → ⊥) → given n 0 ≡ read_entry x i v w s (call.ReadByte k)
  refused_byte_read k = refused_read_law (call.ReadByte k) (λ z g. byte_read i refl z x v w s k (refused_byte refl g _))

  pub refused_word_read : (k : ℕ) → (n ≡ 0 → ⊥) → given n 0 ≡ read_entry x i v w s (call.ReadWord k)
  refused_word_read k = refused_read_law (call.ReadWord k) (λ z g. word_read i refl z x v w s k (refused_word refl g _))

  module _ (z : n ≡ 0) where
    passed : ((load_call i).number ≡ 0) × (refused_read x (world (load_call i).state v w s []) ≡ 0)
    passed = both_pass _ _ (sym e ∙ z)

    pub read_ready : Ready x (world (load_call i).state v w s [])
    read_ready = read_passes x.rom x.sound (load_call i).state v w s passed.1

    pub done_byte_read : (k : ℕ) {b : ℕ} → b ≡ read_byte x (load_call i).state v w s k → given 0 b ≡ read_entry x i v w s (call.ReadByte k)
    done_byte_read k f = byte_read i refl passed.0 x v w s k (accepted_byte refl passed.1 f)

    pub done_word_read : (k : ℕ) {b : ℕ} → b ≡ read_word x (load_call i).state v w s k → given 0 b ≡ read_entry x i v w s (call.ReadWord k)
    done_word_read k f = word_read i refl passed.0 x v w s k (accepted_word refl passed.1 f)

-- where the tests that are enough pass

module _ (x : Fixed) (i v w s : List ℕ) (b : Below 256 i)
    (p : MapperFits i (length x.rom) (length s)) (q : RestFits i (length v) (length w)) (h : length x.sound ≡ sound_len) where
  pub surely_ready : ((load_call i).number ≡ 0) × Ready x (world (load_call i).state v w s [])
  surely_ready = (surely_loaded x i v w s b p q h, read_ready x i v w s (surely_passes x i v w s b p q h) refl)

-- the second of two refusals, where the first passes
pub second_due : {n a b : ℕ} → 0 ≡ a → n ≡ b → n ≡ or_else a b
unfolding or_else
second_due f e = rw (← f, e)

-- video memory by its bank

module _ (i v : List ℕ) {n : ℕ} (e : n ≡ (load_call i).number) (k bank : ℕ) where
  abbrev Answer : ℕ → ℕ → Type 0
  Answer m b = given m b ≡ read_entry (fixed [] []) i v [] [] (call.ReadCgbLcdRam k bank)

  pub lcd_ram_closed : (n ≡ 0 → ⊥) → Answer n 0
  lcd_ram_closed h = rw e (unloaded_read i {d = load_call i} refl (λ z. h (e ∙ z)) (fixed [] []) v [] [] (call.ReadCgbLcdRam k bank))

  module _ (z : n ≡ 0) (b : Below 256 i) {r : ℕ}
      (f : r ≡ or_else (vram_length_refused (banks_of (fields i)).colour (length v)) (vram_refused (banks_of (fields i)).colour k bank)) where
    taken : (load_call i).number ≡ 0
    taken = sym e ∙ z

    passes : refused_state (load_call i).state ≡ 0
    unfolding state_refused
    passes = rw (load_range i taken b)

    due : r ≡ or_else (refused_state (load_call i).state)
        (or_else (vram_length_refused (load_call i).state.core.banks.colour (length v)) (vram_refused (load_call i).state.core.banks.colour k bank))
    unfolding or_else
    due =
        f
        ∙ ap (λ (c : Core). or_else (vram_length_refused c.banks.colour (length v)) (vram_refused c.banks.colour k bank)) (sym (loaded_core i b taken))
        ∙ rw passes

    pub lcd_ram_refused : (r ≡ 0 → ⊥) → Answer r 0
    lcd_ram_refused h = lcd_ram_read i {d = load_call i} refl taken (fixed [] []) v [] [] k bank (refused_byte due h _)

    module _ (h : r ≡ 0) where
      pub lcd_ram_within : ((0x8000 ≤ k) × (k < 0xA000)) × (bank * 0x2000 + 0x2000 ≤ length v)
      lcd_ram_within = let p = both_pass _ _ (sym f ∙ h) in vram_passes _ _ _ _ p.0 p.1

      pub lcd_ram_done : {a : ℕ} → a ≡ get_or v (vram_at bank k) 0 → Answer 0 a
      lcd_ram_done g = lcd_ram_read i {d = load_call i} refl taken (fixed [] []) v [] [] k bank (accepted_byte due h g)
