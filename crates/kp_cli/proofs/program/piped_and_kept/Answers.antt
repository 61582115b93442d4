use Rattle.std.proofs.Common.{◌≡◌, ◌∙◌, [], IfSome, Err, Ok, inl, inr, refl, sym, subst}
use Rattle.kp_types.specs.Folders.{Puts}
use Rattle.kp_cli.proofs.program.piped_and_kept.Goals as goal

pub returns-in-Err : goal.returns-in-Err
returns-in-Err g c = (
  c.leave.ensures.file,
  inl record {
    fault = c.in-Err.fault;
    takes = subst (λ folder. g.K.KeptFolder.takes c.args.folder c.args.keep.now (Err c.in-Err.fault) folder) (sym c.leave.ensures.folder.0) c.in-Err.ensures.takes;
    puts_none = subst (λ folder. Puts (g.K.Folder.entries c.args.folder) (g.K.Folder.entries folder) []) (sym c.leave.ensures.folder.0) c.in-Err.ensures.err;
    no_call = c.leave.ensures.folder.1;
    out_same = refl;
    told = c.refuse_path.ensures.told;
    status_is = c.leave.ensures.status ∙ c.refuse_path.ensures.status;
  },
)

pub returns : goal.returns
returns g c = (
  (c.new.ensures.device, c.new.ensures.faults),
  inr record {
    folder = c.new-folder.result;
    is_taken = record {
      takes = subst (λ folder. g.K.KeptFolder.takes c.args.folder c.args.keep.now (Ok tt) folder) (sym c.new-folder.ensures.device) c.in_default.ensures.takes;
      unput = c.new-folder.ensures.faults;
      empty = subst (λ folder. IfSome (g.K.Folder.entries folder) (λ all. all ≡ [])) (sym c.new-folder.ensures.device) c.in_default.ensures.ok;
    };
    pipes = c.pipe_and_keep-status.ensures;
  },
)
