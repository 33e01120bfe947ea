-- One field in either mode: between quotes, or as it is, in which case there is no quote to double.
use Prim.Native.Nat.{ℕ, ◌+◌, ◌-◌, ◌*◌, ◌≤◌, ◌<◌}
use native.Mathlib.Numerals.{add-one}
use native.Mathlib.Omega.{arith}
use mathlib.Core.Path.{fun_ext, ◌≡◌, refl, sym, ap, ◌∙◌}
use mathlib.Core.Bool.{Bool, true, false, ◌||◌}
use mathlib.Core.List.{[], ◌∷◌, ◌++◌, append_assoc}
use lib.ListN.{length, set, take, drop, get_or, length-append, length-drop, drop_of_length-le}
use lib.Seq.{sets, drop-cons, drop-drop, drop-append-add, length-take-le}
use Rattle.std.specs.List.{list_any}
use Rattle.std.proofs.lemmas.List.{set-append_right, take_more}
use Rattle.format.specs.Table.{Bytes, Content}
use Rattle.format.specs.Dialect.{strict}
use Rattle.format.specs.WrittenForms.{is_special, holds_special, doubled, quoted_form, plain_form}
use Rattle.format.specs.Filling.{over}
use Rattle.format.proofs.Filling.{begin, push, pushes}
use Rattle.format.proofs.Rfc.{strict-needs}
use Rattle.format.proofs.Lines.{quoted-content, plain-content, doubled-length, doubled-least}
use Rattle.writer.specs.declared.Mode.{Mode, TheVariants.Plain, TheVariants.Full}
use Rattle.writer.specs.Form.{quotes, form_in, Begun, bare, quoted}

-- plain quotes a content with a special byte
holds-any : (c : Content) → holds_special strict c ≡ list_any (is_special strict) c
unfolding holds_special
holds-any [] = refl
holds-any (b ∷ c) = rw (holds-any c)

pub plain-quotes : (c : Content) → list_any (is_special strict) c ≡ quotes Plain c
unfolding quotes
plain-quotes c = sym (strict-needs c ∙ holds-any c)

pub full-quotes : (c : Content) → true ≡ quotes Full c
unfolding quotes
full-quotes c = refl

module _ (m : Mode) (c : Content) {q : Bool} (e : q ≡ quotes m c) where
  pub form-quoted : q ≡ true → form_in m c ≡ 0x22 ∷ (doubled c ++ (0x22 ∷ []))
  unfolding form_in
  form-quoted h = rw (sym e ∙ h) (quoted-content c)

  pub form-bare : q ≡ false → form_in m c ≡ c
  unfolding form_in
  form-bare h = rw (sym e ∙ h)

  pub size-quoted : q ≡ true → length (form_in m c) ≡ length (doubled c) + 2
  size-quoted h = rw (form-quoted h, length-append) (omega arith)

  pub size-bare : q ≡ false → length (form_in m c) ≡ length c
  size-bare h = ap length (form-bare h)

  -- a quote, the content and a quote, stored one after the other
  pub put-quoted :
      q ≡ true → (out : Bytes) → length (form_in m c) ≤ length out
      → {r : ℕ} {mid : Bytes} → r ≡ length (doubled c) → mid ≡ sets (set out 0 0x22) 1 (doubled c)
      → (1 + r + 1 ≡ length (form_in m c)) × (set mid (1 + r) 0x22 ≡ over (form_in m c) out)
  put-quoted h out k p e =
      let w : Bytes = 0x22 ∷ (doubled c ++ (0x22 ∷ [])) in
      let f = push {rest = []} _ (pushes (doubled c) _ (push _ (begin w (rw (form-quoted h) at k)))) in
      (omega (arith, p, size-quoted h), rw (e, p, form-quoted h) f.fills)

pub form-bound : (m : Mode) (c : Content) → length (form_in m c) ≤ 2 * length c + 2
form-bound m c = go (quotes m c) refl
  where
    go : (q : Bool) → q ≡ quotes m c → length (form_in m c) ≤ 2 * length c + 2
    go true e = omega (arith, size-quoted m c e refl, doubled-length c)
    go false e = omega (arith, size-bare m c e refl)

-- plain is the form of each field that needs it quoted, full that of every field quoted
pub plain-form : form_in Plain ≡ plain_form strict
unfolding form_in quotes
plain-form = fun_ext (λ c. sym (plain-content strict c))

pub full-form : form_in Full ≡ quoted_form
unfolding form_in quotes
full-form = refl

-- a walk over a content at place i, where no byte before is special
abbrev pub Ordinary : Content → ℕ → Type 0
Ordinary c i = list_any (is_special strict) c ≡ list_any (is_special strict) (drop i c)

module _ (c : Content) (i : ℕ) (g : Ordinary c i) where
  at-byte : i < length c → list_any (is_special strict) c ≡ (is_special strict (get_or c i 0) || list_any (is_special strict) (drop (i + 1) c))
  at-byte h = g ∙ rw add-one (ap (list_any (is_special strict)) (drop-cons c i 0 h))

  pub special_at : i < length c → is_special strict (get_or c i 0) ≡ true → quotes Plain c ≡ true
  special_at h e = sym (plain-quotes c) ∙ at-byte h ∙ ap (λ (q : Bool). q || list_any (is_special strict) (drop (i + 1) c)) e

  pub ordinary_on : i < length c → is_special strict (get_or c i 0) ≡ false → Ordinary c (i + 1)
  ordinary_on h e = at-byte h ∙ ap (λ (q : Bool). q || list_any (is_special strict) (drop (i + 1) c)) e

  pub ordinary_all : length c ≤ i → quotes Plain c ≡ false
  ordinary_all h = sym (plain-quotes c) ∙ g ∙ rw (drop_of_length-le c h) refl

length-over : (w out : Bytes) → length w ≤ length out → length (over w out) ≡ length out
length-over w out h = omega (arith, length-append w (drop (length w) out), length-drop (length w) out)

-- what was begun is written over
pub begun_over : (w p out : Bytes) → length p ≤ length w → over w (over p out) ≡ over w out
begun_over w p out h =
    let e : length p + (length w - length p) ≡ length w = omega arith in
    let d : drop (length w) (p ++ drop (length p) out) ≡ drop (length w) out =
    rw (← e, drop-append-add, drop-drop, e) refl in
    ap (λ (l : Bytes). w ++ l) d

-- one byte more of a content is written
pub copy-on : (c out out' : Bytes) (i : ℕ) → out' ≡ take i c ++ drop i out → i < length c → length c ≤ length out → set out' i (get_or c i 0) ≡ take (i + 1) c ++ drop (i + 1) out
copy-on c out out' i e h k =
    let n : length (take i c) ≡ i = length-take-le i c (omega arith) in
    let d : drop i out ≡ get_or out i 0 ∷ drop (i + 1) out = rw add-one (drop-cons out i 0 (omega arith)) in
    let z : i - i ≡ 0 = omega arith in
    rw (e, d, set-append_right (take i c) (get_or out i 0 ∷ drop (i + 1) out) i i (get_or c i 0) n (omega arith), z, take_more c i 0 h, append_assoc) refl

-- a content is no longer than its form
pub form-least : (m : Mode) (c : Content) → length c ≤ length (form_in m c)
form-least m c = go (quotes m c) refl
  where
    go : (q : Bool) → q ≡ quotes m c → length c ≤ length (form_in m c)
    go true e = omega (arith, size-quoted m c e refl, doubled-least c)
    go false e = omega (arith, size-bare m c e refl)

-- what was begun: it is the whole form, or there is room for all of it still
pub begun-bare : {m : Mode} {c : Content} {out out' : Bytes} {r : Bool} → Begun m c out r out' → r ≡ true → (length c ≡ length (form_in m c)) × (out' ≡ over (form_in m c) out)
begun-bare {m} {c} {out} (bare q e) h = (sym (size-bare m c (sym q) refl), e ∙ ap (λ (w : Bytes). over w out) (sym (form-bare m c (sym q) refl)))
begun-bare (quoted q l e) h = cc

pub begun-quoted : {m : Mode} {c : Content} {out out' : Bytes} {r : Bool} → Begun m c out r out' → r ≡ false → true ≡ quotes m c
begun-quoted (bare q e) h = cc
begun-quoted (quoted q l e) h = sym q

pub begun-length : {m : Mode} {c : Content} {out out' : Bytes} {r : Bool} → Begun m c out r out' → length c ≤ length out → length out' ≡ length out
begun-length {c = c} {out = out} (bare q e) h = ap length e ∙ length-over c out h
begun-length {c = c} {out = out} (quoted {n} q l e) h =
    let k : length (take n c) ≡ n = length-take-le n c l in
    ap length e ∙ length-over (take n c) out (omega (arith, k))

pub begun-over : {m : Mode} {c : Content} {out out' : Bytes} {r : Bool} → Begun m c out r out' → r ≡ false → over (form_in m c) out' ≡ over (form_in m c) out
begun-over (bare q e) h = cc
begun-over {m} {c} {out} (quoted {n} q l e) h =
    let k : length (take n c) ≡ n = length-take-le n c l in
    rw e (begun_over (form_in m c) (take n c) out (omega (arith, k, form-least m c)))
