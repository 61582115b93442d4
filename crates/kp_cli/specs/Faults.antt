-- Why a file or a folder can't be had, as it is told (own rule).
use Rattle.std.specs.Prelude.{ℕ, ℤ, pos, ◌||◌, List, Option, None, Some, codes, if◌then◌else◌}
use Rattle.std.specs.IoError.{error_kind, raw_os_error}
use Rattle.std.specs.Ordering.{int_eq}
use Rattle.std_io.specs.declared.io.error.Error.{Error}
use Rattle.std_io.specs.declared.io.kind.ErrorKind.{ErrorKind}
use Rattle.std_io.specs.declared.io.kind.ErrorKind.TheVariants as kinds
use Rattle.kp_types.specs.declared.refusal.Refusal.{Refusal}
use Rattle.kp_types.specs.declared.refusal.Refusal.TheVariants as refusals
use Rattle.kp_cli.specs.declared.fault.Fault.{Fault}
use Rattle.kp_cli.specs.declared.fault.Fault.TheVariants as faults

-- The reason of an error number of Linux that has no kind of its own: EIO, or ENFILE and EMFILE.
abbrev pub number_fault : Option ℤ → Option Fault
number_fault None = None
number_fault (Some code) =
    if int_eq code (pos 5) then Some faults.DeviceFailed else
    if int_eq code (pos 23) || int_eq code (pos 24) then Some faults.TooManyFiles else None

-- the reason that a kind of the system's errors is of a file
abbrev pub kind_fault : ErrorKind → Fault
kind_fault kinds.NotFound = faults.NoSuchFile
kind_fault kinds.PermissionDenied = faults.NoPermission
kind_fault kinds.AlreadyExists = faults.AlreadyThere
kind_fault kinds.NotADirectory = faults.PartIsNoFolder
kind_fault kinds.IsADirectory = faults.IsAFolder
kind_fault kinds.DirectoryNotEmpty = faults.NotEmpty
kind_fault kinds.ReadOnlyFilesystem = faults.ReadOnly
kind_fault kinds.FilesystemLoop = faults.LinksInACircle
kind_fault kinds.StorageFull = faults.DiskFull
kind_fault kinds.QuotaExceeded = faults.QuotaUsed
kind_fault kinds.FileTooLarge = faults.TooLarge
kind_fault kinds.InvalidFilename = faults.NameTooLong
kind_fault kinds.OutOfMemory = faults.OutOfMemory
kind_fault _ = faults.Other

-- the first of these reasons that there is
abbrev pub fault_or : Option Fault → Fault → Fault
fault_or None known = known
fault_or (Some fault) known = fault

-- the reason that an error of the system is of a file
abbrev pub fault_of : Error → Fault
fault_of error = fault_or (number_fault (raw_os_error error)) (kind_fault (error_kind error))

-- of a folder that is to be made or looked into, where this is the reason else
abbrev pub folder_kind_fault : ErrorKind → Fault → Fault
folder_kind_fault kinds.NotFound known = faults.NoFolderAbove
folder_kind_fault kinds.NotADirectory known = faults.IsNoFolder
folder_kind_fault _ known = known

-- and of such a folder
abbrev pub folder_fault_of : Error → Fault
folder_fault_of error = folder_kind_fault (error_kind error) (fault_of error)

-- of what stands at a folder's path and is looked into, where this is the reason else: if nothing can be found, it is a link
abbrev pub standing_kind_fault : ErrorKind → Fault → Fault
standing_kind_fault kinds.NotFound known = faults.DanglingLink
standing_kind_fault _ known = known

-- and of what stands there
abbrev pub standing_fault_of : Error → Fault
standing_fault_of error = standing_kind_fault (error_kind error) (folder_fault_of error)

-- F33 where memory ran out, else F32
abbrev pub refusal_of : Fault → Refusal
refusal_of faults.OutOfMemory = refusals.Memory
refusal_of _ = refusals.Device

-- how it is told
abbrev pub fault_text : Fault → List ℕ
fault_text faults.NoSuchFile = codes "no such file"
fault_text faults.NoFolderAbove = codes "the folder above it isn't there"
fault_text faults.NoPermission = codes "permission denied"
fault_text faults.AlreadyThere = codes "something of that name is there already"
fault_text faults.PartIsNoFolder = codes "a part of its path is no folder"
fault_text faults.IsNoFolder = codes "it is no folder, or a part of its path is none"
fault_text faults.IsAFolder = codes "it is a folder"
fault_text faults.NotEmpty = codes "it isn't empty"
fault_text faults.ReadOnly = codes "its file system can't be written"
fault_text faults.LinksInACircle = codes "its links go round in a circle"
fault_text faults.DiskFull = codes "the disk is full"
fault_text faults.QuotaUsed = codes "the quota of the disk is used up"
fault_text faults.TooLarge = codes "the file would be too large"
fault_text faults.NameTooLong = codes "its name is too long"
fault_text faults.DanglingLink = codes "it is a link that leads nowhere"
fault_text faults.TooManyFiles = codes "too many files are open"
fault_text faults.DeviceFailed = codes "its device failed"
fault_text faults.OutOfMemory = codes "out of memory"
fault_text faults.NotText = codes "an argument isn't UTF-8"
fault_text faults.Other = codes "the system gave no reason that is known here"
