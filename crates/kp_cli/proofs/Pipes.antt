-- What a pipe leaves, as what its parts leave.
use Rattle.std.proofs.Common.{◌≡◌, ◌∙◌, ◌⊎◌, ◌+◌, ◌==◌, ℕ, List, [], Option, None, Some, Result, Ok, Err, cond, inl, inr, refl, ap, subst, arith}
use Rattle.std.specs.Prelude.{IfErr, IfOk}
use Rattle.std.specs.Io.Buffered.{reader_buffer, reader_capacity, reader_inner, reader_remaining}
use Rattle.std.specs.Io.KnownBytes.{prepend_known}
use Rattle.std.specs.declared.io.buffered.BufReader.{BufReader}
use Rattle.std.proofs.KnownBytes.{Appends-nil, prepend_known-nil}
use Rattle.kp_types.specs.declared.counted.Counted.{Counted}
use Rattle.kp_types.specs.declared.refusal.Refusal.{Refusal}
use Rattle.kp_types.specs.declared.refusal.Refusal.TheVariants as refusals
use Rattle.kp_types.specs.Devices.{CountsOne, IsDeviceFault, device_of, faults_of}
use Rattle.kp_script.specs.Ended.{RunEnd, no_stage}
use Rattle.kp_script.specs.Piped.{PipesFirst, PipesFront, PipesTo, refused_in}
use Rattle.kp_script.specs.Reads.{ReadsInto}
use Rattle.kp_script.specs.declared.pipe.CutPipe.{CutPipe}
use Rattle.kp_cli.specs.Piped.{Answers}

-- an empty buffer has what its reader has
pub buffered : {T A : Type 0} (remaining : T → Option (List ℕ)) (r : BufReader T A) (input : T) → reader_inner r ≡ input → reader_buffer r ≡ [] → reader_capacity r ≡ 8192
    → reader_remaining remaining r ≡ remaining input
buffered remaining r input inner empty capacity =
    ap (λ (n : ℕ). cond (n == 0) None (prepend_known (reader_buffer r) (remaining r.inner))) capacity
    ∙ ap (λ (bytes : List ℕ). prepend_known bytes (remaining r.inner)) empty ∙ prepend_known-nil (remaining r.inner) ∙ ap remaining inner

-- a count that rose is a device's failure
failed : (refusal : Refusal) (read read_new written written_new : ℕ) → IsDeviceFault refusal → CountsOne {A = ℕ} (Err refusal) read read_new written written_new → written_new ≡ written + 1
    → refusal ≡ refusals.Device
failed refusals.Device read read_new written written_new only counted rose = refl
failed refusals.Memory read read_new written written_new only counted rose = absurd (omega (arith, counted.1, rose))
failed _ read read_new written written_new only counted rose = absurd only

-- what was played of an input is what it leaves
pub answers : {W : Type 0} (held : W → Option (List ℕ)) (input known left : Option (List ℕ)) (out out_new : Counted W) (read read_new : ℕ) (r : Result RunEnd CutPipe) → known ≡ input
    → IfOk r (λ ended. PipesTo known (held (device_of out)) (held (device_of out_new)) ended)
    → IfErr r (λ cut. ((faults_of out_new ≡ faults_of out) × PipesFirst known left (held (device_of out)) (held (device_of out_new)) cut.piped.stage)
    ⊎ ((faults_of out_new ≡ faults_of out + 1) × PipesFront known left (held (device_of out)) (held (device_of out_new)) cut.piped.stage))
    → IfErr r (λ cut. IsDeviceFault cut.refusal) → CountsOne (refused_in r) read read_new (faults_of out) (faults_of out_new) → Answers held input out out_new r
answers held input known left out out_new read read_new (Ok ended) same to cut only counted =
    (subst (λ (i : Option (List ℕ)). PipesTo i (held (device_of out)) (held (device_of out_new)) ended) same to, counted.1)
answers held input known left out out_new read read_new (Err p) same to (inl first) only counted =
    (only, (left, inl (subst (λ (i : Option (List ℕ)). PipesFirst i left (held (device_of out)) (held (device_of out_new)) p.piped.stage) same first.1, first.0)))
answers held input known left out out_new read read_new (Err p) same to (inr front) only counted = (
  only,
  (
    left,
    inr (
      subst (λ (i : Option (List ℕ)). PipesFront i left (held (device_of out)) (held (device_of out_new)) p.piped.stage) same front.1,
      front.0,
      failed p.refusal read read_new (faults_of out) (faults_of out_new) only counted front.0,
    ),
  ),
)

none_read : (known : Option (List ℕ)) → ReadsInto known known []
none_read None = tt
none_read (Some all) = ([], tt, refl)

-- nothing was read
pub unread : {W : Type 0} (held : W → Option (List ℕ)) (input : Option (List ℕ)) (out : Counted W) (none : RunEnd) → none ≡ record { refused = 0; stage = no_stage } → Answers held input out out (Err (record { refusal = refusals.Memory; piped = none }))
unread held input out none is = (
  tt,
  (
    input,
    inl (
      record {
        read = [];
        last_read = inl (none_read input, ap (λ (ended : RunEnd). ended.stage) is);
        text = [];
        ended = record { refused = 0; stage = no_stage };
        piped = inl (record { no_header = tt; text_is = refl; refused_is = refl; stage_is = refl });
        written = Appends-nil (held (device_of out));
      },
      refl,
    ),
  ),
)
