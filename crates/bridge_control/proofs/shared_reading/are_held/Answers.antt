use Rattle.std.proofs.Common.{◌≡◌, ◌≤◌, Some, length, map, take, get_or, arith, refl, sym, ap, ◌∙◌, eqb-true, eq-eqb, true≢false, List, ℕ}
use Rattle.std.proofs.lemmas.List.{take_all}
use Rattle.std.specs.List.{filter_map}
use Rattle.std.specs.FinMap.{entries, len-entries}
use Rattle.spb_types.specs.declared.address.LspId.{LspId}
use Rattle.lsdb.specs.Database.{keyed}
use Rattle.bridge_api.specs.Tables.{live_lsp, live_lsps, contents_among}
use Rattle.bridge_control.specs.Reading.{copied}
use Rattle.bridge_control.proofs.Compared.{same_more, none_more, there, next_same, as_many}
use Rattle.bridge_control.proofs.shared_reading.are_held.Goals as goal
use Rattle.bridge_control.proofs.shared_reading.are_held.Goals.{then-is_read+else-next-lsps+else-not-is_same, else-is_read, then-next-lsps-via-then-next-lsps, then-next-lsps-via-else-next-lsps+then-not-is_same}

pub loop-place-preserved : goal.loop-place-preserved
loop-place-preserved c =
    let es = entries c.args.db.now in
    let xs = c.args.lsps.now in
    let k = c.loop-place.place in
    let n = c.loop-place.next in
    let e = keyed c.in-Some.held.now in
    let there = sym c.in-Some.ensures.entry in
    let was = c.loop-place.invariant.0 in
    elim c.if-is_read.branch [
      | then-is_read+else-next-lsps+else-not-is_same w ↦
          let d = w.index-lsps-next.result in
          let same : live_lsp e ≡ Some (copied (get_or xs n d)) = w.is_same.ensures.0 w.if-not-is_same.false ∙ ap (λ lsp. Some (copied lsp)) w.index-lsps-next.is in
          (ap (λ m. map copied (take m xs)) w.next-is ∙ same_more live_lsp copied es xs k n e d there w.if-next-lsps.false was same, omega (arith, w.next-is, w.if-next-lsps.false))
      | else-is_read w ↦
          (ap (λ m. map copied (take m xs)) w.next-is ∙ none_more live_lsp es k e _ there was (c.is_read.ensures.other w.if-is_read.false), omega (arith, w.next-is, c.loop-place.invariant.1))
    ]

pub returns-in_default-clause-held : goal.returns-in_default-clause-held
returns-in_default-clause-held c =
    absurd (there (entries c.args.db.now) c.loop-place.place (omega (arith, c.loop-place-test.true, c.len-place-end.ensures.len, len-entries c.args.db.now)) (sym c.in_default.ensures.entry))

pub returns-then-next-lsps-clause-held : goal.returns-then-next-lsps-clause-held
returns-then-next-lsps-clause-held c = (λ e. absurd cc, λ same. absurd (otherwise same))
  where
    otherwise : live_lsps c.args.db.now ≡ map copied c.args.lsps.now → ⊥
    otherwise same =
        let held = c.in-Some.held.now in
        let reads : live_lsp (keyed held) ≡ Some (held.id, held.body) = c.if-is_read.ensures.read refl in
        let next = next_same live_lsp copied (entries c.args.db.now) c.args.lsps.now c.loop-place.place c.loop-place.next (keyed held) (held.id, held.body) (sym c.in-Some.ensures.entry) reads c.loop-place.invariant.0 same in
        elim c.then-next-lsps.branch [
          | then-next-lsps-via-then-next-lsps w ↦ omega (arith, next.0, w.if-next-lsps.true)
          | then-next-lsps-via-else-next-lsps+then-not-is_same w ↦
              let d = w.index-lsps-next.result in
              let is : copied d ≡ (held.id, held.body) = ap copied w.index-lsps-next.is ∙ next.1 d in
              true≢false (sym (w.if-not-is_same.ensures.1 (reads ∙ ap (λ (lsp : LspId × List ℕ). Some lsp) (sym is))))
        ]

pub returns-clause-held : goal.returns-clause-held
returns-clause-held c =
    let es = entries c.args.db.now in
    let xs = c.args.lsps.now in
    let n = c.loop-place.next in
    let past : length es ≤ c.loop-place.place = omega (arith, c.loop-place-test.false, c.len-place-end.ensures.len, len-entries c.args.db.now) in
    let read : map copied (take n xs) ≡ filter_map live_lsp es = c.loop-place.invariant.0 ∙ ap (filter_map live_lsp) (take_all c.loop-place.place es past) in (
      λ e.
          let next : n ≡ length xs = eqb-true n (length xs) e in
          sym read ∙ ap (map copied) (take_all n xs (omega (arith, next))),
      λ same. eq-eqb n (length xs) (as_many live_lsp copied es xs n c.loop-place.invariant.1 read same),
    )

pub returns-clause-read : goal.returns-clause-read
returns-clause-read c = λ is. ap contents_among ((returns-clause-held c).0 is)
