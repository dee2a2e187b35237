-- A frame that carries a customer's frame is read as what was carried.
use Rattle.std.proofs.Common.{◌≡◌, ◌≢◌, ℕ, Bool, true, false, ltb, List, [], ◌∷◌, length, Ok, Err, if◌then◌else◌, refl, ap, ◌∙◌, arith}
use Rattle.std.specs.Str.{bytes_eq}
use Rattle.std.proofs.lemmas.Bool.{le-ltb}
use Rattle.std.proofs.lemmas.Slice.Eq.{bytes_eq-Decides}
use Rattle.spb_types.specs.declared.address.Mac.{Mac}
use Rattle.itag_frames.specs.declared.frame.FrameError.TheVariants.{Short}
use Rattle.itag_frames.specs.Frame.{Customer, control_address, is_to_bridges}
use Rattle.itag_frames.specs.Backbone.{CanBeCarried, backbone_bytes, backbone_in}
use Rattle.itag_frames.specs.Classify.{content_in, control_in, CarriedAgain}
use Rattle.itag_frames.proofs.BackboneLaws.{mac, encapsulated_again}

-- a test that decides what isn't so fails
fails : (b : Bool) {P : Type 0} → (b ≡ true → P) → (P → ⊥) → b ≡ false
fails true {P = P} is never = absurd (never (is refl))
fails false {P = P} is never = refl

-- a frame of 17 bytes or more to another address is what is opened from it
opened_away : (frame : List ℕ) → ltb (length frame) 17 ≡ false → is_to_bridges frame ≡ false → content_in frame ≡ backbone_in frame
opened_away frame long away =
    ap (λ (short : Bool). if short then Err Short else (if is_to_bridges frame then control_in frame else backbone_in frame)) long
    ∙ ap (λ (bridges : Bool). if bridges then control_in frame else backbone_in frame) away

pub carried_again : CarriedAgain
carried_again da sa vid isid customer can other =
    mac (λ (m : Mac). m.bytes ≢ control_address → CanBeCarried m sa vid isid customer → content_in (backbone_bytes m sa vid isid customer) ≡ Ok (Customer m sa vid isid customer)) da can.to (λ a b c d e f away can_go.
    let to : Mac = record { bytes = a ∷ b ∷ c ∷ d ∷ e ∷ f ∷ [] } in
    mac (λ (m : Mac). CanBeCarried to m vid isid customer → content_in (backbone_bytes to m vid isid customer) ≡ Ok (Customer to m vid isid customer)) sa can.from (λ g h j k l m can_come.
    let from : Mac = record { bytes = g ∷ h ∷ j ∷ k ∷ l ∷ m ∷ [] } in
    let frame : List ℕ = backbone_bytes to from vid isid customer in
    let long : ltb (length frame) 17 ≡ false = le-ltb _ _ (omega (arith, can_come.whole)) in
    let apart : is_to_bridges frame ≡ false = fails (bytes_eq to.bytes control_address) (bytes_eq-Decides to.bytes control_address).0 away in
    opened_away frame long apart ∙ encapsulated_again to from vid isid customer can_come) can_go) other can
