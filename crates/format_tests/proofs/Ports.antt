-- Ports at the I-SIDs 1 to 60, each I-SID in one base VID of at most 16, are what a bridge can have.
use Rattle.std.proofs.Common.{◌≡◌, ℕ, ◌+◌, ◌≤◌, ◌<◌, List, [], ◌∷◌, length, map, sym, ap, ◌∙◌, arith}
use Rattle.std.specs.Prelude.{◌%◌}
use Rattle.std.specs.List.{AllByRecursion}
use Rattle.spb_types.specs.Ascending.{Ascends}
use Rattle.spb_types.specs.declared.graph.Member.{Member}
use Rattle.spb_types.specs.declared.service.Isid.{Isid}
use Rattle.spb_content.specs.declared.local.Local.{Local}
use Rattle.spb_content.specs.Local.{IsAttached, IsLocal, isid_number, isids_in}
use Rattle.spb_content.proofs.Members.{all_has, has_all, weaker}
use Rattle.spb_content.proofs.Ascended.{ascending_ascends}
use Rattle.spb_content.proofs.Written.{isid_attached}
use Rattle.spb_content.proofs.Pairs.{one_vid_if}

abbrev pub IsPort : ℕ → Member → Type 0
IsPort vids m = (1 ≤ m.isid.value) × (m.isid.value ≤ 60) × (m.vid.value ≡ 10 + m.isid.value % vids)

is_attached : (vids : ℕ) (m : Member) → 1 ≤ vids → vids ≤ 16 → IsPort vids m → IsAttached m
is_attached vids m some few is = record {
  isid_low = is.0;
  isid_high = omega (arith, is.1);
  vid_low = omega (arith, is.2);
  vid_high = omega (arith, is.2, some, few);
}

-- an ascending list has no more items than there are numbers for them
few_numbers : (low high : ℕ) (xs : List Isid) → low ≤ high → Ascends isid_number xs → AllByRecursion (λ x. low < x.value) xs → AllByRecursion (λ x. x.value ≤ high) xs → length xs + low ≤ high
few_numbers low high [] fits up above below = omega (arith, fits)
few_numbers low high (x ∷ xs) fits up above below = omega (arith, above.0, few_numbers x.value high xs below.0 up.1 up.0 below.1)

few_isids : (vids : ℕ) (ms : List Member) → AllByRecursion (IsPort vids) ms → length (isids_in ms) ≤ 60
few_isids vids ms each =
    let above : AllByRecursion (λ i. 0 < i.value) (isids_in ms) = has_all (λ i. 0 < i.value) (isids_in ms) (λ i h. let m = isid_attached i ms h in let is = all_has (IsPort vids) m.0 ms each m.1 in omega (arith, is.0, ap isid_number m.2)) in
    let below : AllByRecursion (λ i. i.value ≤ 60) (isids_in ms) = has_all (λ i. i.value ≤ 60) (isids_in ms) (λ i h. let m = isid_attached i ms h in let is = all_has (IsPort vids) m.0 ms each m.1 in omega (arith, is.1, ap isid_number m.2)) in
    omega (arith, few_numbers 0 60 (isids_in ms) (omega arith) (ascending_ascends isid_number (map (λ m. m.isid) ms)) above below)

pub can_be_attached : (l : Local) (ms : List Member) (vids : ℕ) → IsLocal l → 1 ≤ vids → vids ≤ 16 → AllByRecursion (IsPort vids) ms → IsLocal (record l { attached = ms })
can_be_attached l ms vids is some few each = record {
  source = is.source;
  few_vids = is.few_vids;
  vids = is.vids;
  vids_apart = is.vids_apart;
  metrics = is.metrics;
  attached = weaker (IsPort vids) IsAttached ms (λ m port. is_attached vids m some few port) each;
  one_vid = one_vid_if ms (λ m n h i e.
      let a = all_has (IsPort vids) m ms each h in
      let b = all_has (IsPort vids) n ms each i in
      a.2 ∙ (ap (λ (k : ℕ). 10 + k % vids) e ∙ sym b.2));
  few_isids = omega (arith, few_isids vids ms each);
}
