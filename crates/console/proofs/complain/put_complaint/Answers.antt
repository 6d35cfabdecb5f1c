-- Name, line and words are put, each where what stands before it ends.
use Rattle.std.proofs.Common.{◌+◌, ◌≤◌, ◌++◌, ℕ, List, [], ◌∷◌, length, arith, ap, subst}
use Rattle.formats.specs.Bytes.{bytes, end_byte}
use Rattle.formats.specs.Inner.Writing.{Puts}
use Rattle.formats.specs.declared.refusal.Refusal.{Refusal}
use Rattle.formats.specs.declared.refusal.Told.{Told}
use Rattle.formats.proofs.Laws.Writing.{fits_next, puts_both}
use Rattle.console.specs.Words.{words, text_name, line_mark}
use Rattle.console.specs.Printing.{complaint_room}
use Rattle.console.specs.Inner.Rooms.{NamesFit}
use Rattle.console.proofs.Laws.Rooms.{after_name, complaint_by, name_short, mark_short, words_short, complaint_short}
use Rattle.console.proofs.complain.put_complaint.Goals as goal

names : (net listing out : List ℕ) → (length net + complaint_room ≤ length out) × (length listing + complaint_room ≤ length out) → NamesFit net listing 88 out
names net listing out r = (omega (arith, r.0), omega (arith, r.0), omega (arith, r.1))

-- what is left has room after each part
module _ (net listing out : List ℕ) (t : Told) (e : Refusal) (fits : 0 + length (complaint_by net listing t e) ≤ length out) (n1 : ℕ) (out1 : List ℕ) (named : Puts out 0 (text_name net listing t.text) n1 out1) (n2 : ℕ) (out2 : List ℕ) (marked : Puts out1 n1 (line_mark t.line) n2 out2) (n3 : ℕ) (out3 : List ℕ) (begun : Puts out2 n2 (bytes ": ") n3 out3) (n4 : ℕ) (out4 : List ℕ) (worded : Puts out3 n3 (words e) n4 out4) where
  room1 : n1 + length (after_name t e) ≤ length out1
  room1 = fits_next _ _ (text_name net listing t.text) (after_name t e) fits _ _ named

  room2 : n2 + length (bytes ": " ++ (words e ++ (end_byte ∷ []))) ≤ length out2
  room2 = fits_next _ _ (line_mark t.line) (bytes ": " ++ (words e ++ (end_byte ∷ []))) room1 _ _ marked

  room3 : n3 + length (words e ++ (end_byte ∷ [])) ≤ length out3
  room3 = fits_next _ _ (bytes ": ") (words e ++ (end_byte ∷ [])) room2 _ _ begun

  last_fits : n4 + length (end_byte ∷ []) ≤ length out4
  last_fits = fits_next _ _ (words e) (end_byte ∷ []) room3 _ _ worded

  all_put : (n5 : ℕ) (out5 : List ℕ) → Puts out4 n4 (end_byte ∷ []) n5 out5 → Puts out 0 (complaint_by net listing t e) n5 out5
  all_put n5 out5 ended =
      let after_begun = puts_both _ _ (words e) (end_byte ∷ []) room3 _ _ worded _ _ ended in
      let after_mark = puts_both _ _ (bytes ": ") (words e ++ (end_byte ∷ [])) room2 _ _ begun _ _ after_begun in
      let after = puts_both _ _ (line_mark t.line) (bytes ": " ++ (words e ++ (end_byte ∷ []))) room1 _ _ marked _ _ after_mark in
      puts_both _ _ (text_name net listing t.text) (after_name t e) fits _ _ named _ _ after

pub put_bytes-begun-requires : goal.put_bytes-begun-requires
put_bytes-begun-requires c =
    let a = c.args in
    let t = c.told-told in
    omega (arith, c.put_name-named.ensures.0, c.put_name-named.auto.out, c.put_mark-marked.ensures.0, c.put_mark-marked.auto.out, name_short a.net.now a.listing.now t.result.text 88 a.out.now (names a.net.now a.listing.now a.out.now c.requires), mark_short t.result.line (omega (arith, t.type_inv)))

pub put_bytes-worded-requires : goal.put_bytes-worded-requires
put_bytes-worded-requires c =
    let a = c.args in
    let t = c.told-told in
    omega (arith, c.put_name-named.ensures.0, c.put_name-named.auto.out, c.put_mark-marked.ensures.0, c.put_mark-marked.auto.out, c.put_bytes-begun.ensures.0, c.put_bytes-begun.auto.out, name_short a.net.now a.listing.now t.result.text 88 a.out.now (names a.net.now a.listing.now a.out.now c.requires), mark_short t.result.line (omega (arith, t.type_inv)), words_short a.refusal, ap length c.words.ensures)

pub put_bytes-requires : goal.put_bytes-requires
put_bytes-requires c =
    let a = c.args in
    let t = c.told-told in
    let worded = subst (λ (w : List ℕ). Puts c.put_bytes-begun.new.out c.put_bytes-begun.result w c.put_bytes-worded.result c.put_bytes-worded.new.out) c.words.ensures c.put_bytes-worded.ensures in
    last_fits a.net.now a.listing.now a.out.now t.result a.refusal (complaint_short a.net.now a.listing.now a.out.now t.result a.refusal (omega (arith, t.type_inv)) (names a.net.now a.listing.now a.out.now c.requires)) _ _ c.put_name-named.ensures _ _ c.put_mark-marked.ensures _ _ c.put_bytes-begun.ensures _ _ worded

pub returns : goal.returns
returns c =
    let a = c.args in
    let t = c.told-told in
    let worded = subst (λ (w : List ℕ). Puts c.put_bytes-begun.new.out c.put_bytes-begun.result w c.put_bytes-worded.result c.put_bytes-worded.new.out) c.words.ensures c.put_bytes-worded.ensures in
    subst (λ (told : Told). Puts a.out.now 0 (complaint_by a.net.now a.listing.now told a.refusal) c.put_bytes.result c.put_bytes.new.out) t.ensures
    (all_put a.net.now a.listing.now a.out.now t.result a.refusal (complaint_short a.net.now a.listing.now a.out.now t.result a.refusal (omega (arith, t.type_inv)) (names a.net.now a.listing.now a.out.now c.requires)) _ _ c.put_name-named.ensures _ _ c.put_mark-marked.ensures _ _ c.put_bytes-begun.ensures _ _ worded _ _ c.put_bytes.ensures)
